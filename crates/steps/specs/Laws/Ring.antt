-- The ring of a chain: its links lead, from its origin on and as often as it has stones, to exactly the points that its slot owns. So a
-- walk that gives each point of it to another slot moves the whole chain and nothing else.
use Rattle.std.specs.Prelude.{Bool, true, ◌≡◌, refl, ℕ, suc, ◌≤◌, ◌<◌, eqb, get_or, set}
use Rattle.std.proofs.Math.Bool.{cond}
use Rattle.std.proofs.Math.Path.{sym}
use Rattle.std.proofs.Common.{ap, ◌∙◌, arith, length-set, get_or-set_same, get_or-set_other, eq-eqb, ne_eqb}
use mathlib.Core.List.Memᴰ
use mathlib.Core.List.Memᴰ.{head}
use mathlib.Core.List.Memᴰ.{tail}
use mathlib.Core.List.{List, [], ◌∷◌, ◌++◌, Memᴰ}
use Rattle.std.proofs.Math.Logic.{⊎_elim}
use Rattle.std.proofs.Math.ListN.{length}
use Rattle.rules.specs.Sizes.{max_area, slots}
use Rattle.rules.specs.Lists.{pick, count, below, has}
use Rattle.rules.specs.Points.{area}
use Rattle.rules.proofs.Laws.Lists.{decided, equal_or_not, mem_below, mem-pick, has-mem, has-not}
use Rattle.rules.proofs.Laws.Counting.{distinct-fewer, length-pick}
use Rattle.chains.specs.Group.{used}
use Rattle.chains.specs.Walk.{walked}
use Rattle.chains.specs.Laws.Walk.{length-walked, walked-mem}
use Rattle.board.specs.declared.goban.Board.{Board}
use Rattle.board.specs.Board.{owner, chain_in}
use Rattle.board.specs.True.{ExactTable, ExactChain}
use Rattle.board.specs.Laws.Board.{area-fits}
use Rattle.steps.specs.Steps.{owning}

-- ---- Points given to a slot

pub length-owning : (s : ℕ) (ps owners : List ℕ) → length (owning s ps owners) ≡ length owners
length-owning s [] owners = refl
length-owning s (p ∷ ps) owners = length-owning s ps (set owners p s) ∙ length-set owners p s

-- one point more, at the end
pub owning-snoc : (s : ℕ) (ps owners : List ℕ) (p : ℕ) → owning s (ps ++ (p ∷ [])) owners ≡ set (owning s ps owners) p s
owning-snoc s [] owners p = refl
owning-snoc s (q ∷ ps) owners p = owning-snoc s ps (set owners q s) p

pub owning-out : (s : ℕ) (ps owners : List ℕ) (q d : ℕ) → ¬ Memᴰ q ps → get_or (owning s ps owners) q d ≡ get_or owners q d
owning-out s [] owners q d out = refl
owning-out s (p ∷ ps) owners q d out =
    owning-out s ps (set owners p s) q d (λ m. out (tail m)) ∙ get_or-set_other owners p q s d (λ e. out (head e))

-- what has the slot keeps it, so it does not matter whether the point comes again
owning-kept : (s : ℕ) (ps owners : List ℕ) (q d : ℕ) → q < length owners → get_or owners q d ≡ s → get_or (owning s ps owners) q d ≡ s
owning-kept s [] owners q d l e = e
owning-kept s (p ∷ ps) owners q d l e =
    owning-kept s ps (set owners p s) q d (rw (length-set owners p s) l)
    (⊎_elim (λ i. rw (← i) (get_or-set_same owners q s d l)) (λ n. get_or-set_other owners p q s d n ∙ e) (equal_or_not q p))

pub owning-in : (s : ℕ) (ps owners : List ℕ) (q d : ℕ) → q < length owners → Memᴰ q ps → get_or (owning s ps owners) q d ≡ s
owning-in s [] owners q d l m = absurd (Memᴰ.not-nil m)
owning-in s (p ∷ ps) owners q d l m =
    ⊎_elim
    (λ e. owning-kept s ps (set owners p s) q d (rw (length-set owners p s) l) (rw (← e) (get_or-set_same owners q s d l)))
    (λ t. owning-in s ps (set owners p s) q d (rw (length-set owners p s) l) t)
    (Memᴰ.cases_cons m)

-- ---- The ring

-- the points that the links of the chain in slot s lead to, in order
abbrev pub ring : Board → ℕ → List ℕ
ring b s = walked b.next (chain_in b s).origin (chain_in b s).count

-- the points that the slot owns, in the order of the board
abbrev owns : Board → ℕ → ℕ → Bool
owns b s p = eqb (owner b p) s

abbrev domain : Board → ℕ → List ℕ
domain b s = pick (owns b s) (below (area b.height b.width))

module _ (b : Board) (is : ExactTable b) (s : ℕ) (low : s < slots) (is-used : used (chain_in b s) ≡ true) where
  chain : ExactChain b s
  chain = is.exact s low is-used

  pub owned-on : (q : ℕ) → owner b q ≡ s → q < area b.height b.width
  owned-on q e = (is.owned q (λ z. let same : s ≡ slots = sym e ∙ z in omega arith)).0

  pub owned-within : (q : ℕ) → owner b q ≡ s → q < max_area
  owned-within q e = let on = owned-on q e in let fits = area-fits is.size in omega arith

  -- what is walked is owned
  pub ring-owned : {q : ℕ} → Memᴰ q (ring b s) → owner b q ≡ s
  ring-owned m = let (k, l, e) = walked-mem b.next (chain_in b s).origin (chain_in b s).count m in ap (owner b) e ∙ chain.linked k l

  -- what is owned is walked: one point more would make more points than the slot owns
  pub ring-all : (q : ℕ) → owner b q ≡ s → Memᴰ q (ring b s)
  ring-all q e =
      ⊎_elim (has-mem (ring b s) q)
      (λ out.
      let fewer : suc (length (ring b s)) ≤ length (domain b s) =
      distinct-fewer (q ∷ ring b s) (domain b s) (has-not out, chain.once) within in
      let long : length (ring b s) ≡ (chain_in b s).count = length-walked b.next (chain_in b s).origin (chain_in b s).count in
      let size = length-pick (owns b s) (below (area b.height b.width)) in
      let all : (chain_in b s).count ≡ count (owns b s) (below (area b.height b.width)) = chain.counted in
      absurd (omega arith))
      (decided (has (ring b s) q))
    where
      found : (p : ℕ) → owner b p ≡ s → Memᴰ p (domain b s)
      found p o = mem-pick (owns b s) (mem_below (area b.height b.width) p (owned-on p o)) (eq-eqb (owner b p) s o)

      within : (p : ℕ) → Memᴰ p (q ∷ ring b s) → Memᴰ p (domain b s)
      within p m = ⊎_elim (λ i. found p (ap (owner b) i ∙ e)) (λ t. found p (ring-owned t)) (Memᴰ.cases_cons m)

  -- each stone of the chain goes over to slot t, and no other does
  pub owner-owning :
      (t q : ℕ) →
      get_or (owning t (ring b s) b.owners) q slots
      ≡ cond (eqb (owner b q) s) t (owner b q)
  unfolding owner
  owner-owning t q =
      ⊎_elim
      (λ e.
      let within : q < length b.owners = let on = owned-within q e in omega (arith, is.shape.owners) in
      owning-in t (ring b s) b.owners q slots within (ring-all q e)
      ∙ sym (ap (λ (x : Bool). cond x t (owner b q)) (eq-eqb (owner b q) s e)))
      (λ n.
      owning-out t (ring b s) b.owners q slots (λ m. n (ring-owned m))
      ∙ sym (ap (λ (x : Bool). cond x t (owner b q)) (ne_eqb (owner b q) s n)))
      (equal_or_not (owner b q) s)
