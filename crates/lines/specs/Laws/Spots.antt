-- Laws of the spots: the buffer while they are laid, one after the other.
use Rattle.std.specs.Prelude.{◌≡◌, refl, List, [], ◌∷◌, ◌++◌, map, ℕ, suc, ◌+◌, ◌*◌, ◌≤◌, ◌<◌, min, length, get_or, drop, set, Option, None, Some}
use Rattle.std.proofs.Common.{sym, ap, ap₂, ◌∙◌, subst, zero-add, add-one, arith, take_all, drop-cons}
use Rattle.std.proofs.Math.ListN.{length-map, get_or-map}
use Rattle.std.proofs.Math.Seq.{paste, paste-zero, paste-suc}
use Rattle.std.proofs.lemmas.List.Edits.{length-paste}
use Rattle.std.proofs.lemmas.Option.{none-some, same_Some}
use Rattle.rules.specs.Calls.{Spot}
use Rattle.lines.specs.declared.read.NextSpot.{NextSpot}
use Rattle.spelling.specs.Text.{words}
use Rattle.spelling.specs.Number.{byte_of, number_of, numbers, consed}
use Rattle.spelling.specs.Steps.{most, numeral}
use Rattle.lines.specs.Command.{Handicap, handicap_of, spotted, pairs}
use Rattle.lines.specs.Reads.{packed}
use Rattle.lines.specs.Steps.{Names, SpotIs, Spotted, Laying}
use Rattle.lines.specs.Laws.Calls.{byte-capped}
use Rattle.lines.specs.Laws.Handicap.{spot-step, no-spot, no-handicap, handicap-same}

no_spot : Spot
no_spot = record { row = 0; column = 0 }

module _ (text : List ℕ) (before : List ℕ) (count : ℕ) where
  -- so many of the spots are laid, and the others are those of the rest
  pub record LaidUpto (rest : List ℕ) (laid : ℕ) (after : List ℕ) : Type 0 where
    pub whole : List Spot
    pub its : Names text whole
    pub counted : length whole ≡ count
    pub fits : count ≤ length before
    pub upto : laid ≤ count
    pub left : Names rest (drop laid whole)
    pub written : after ≡ paste before 0 (map packed whole) laid

  pub laid_none : Laying text count before → LaidUpto text 0 before
  laid_none l =
      record {
        whole = l.spots;
        its = l.its;
        counted = l.counted;
        fits = l.fits;
        upto = omega arith;
        left = l.its;
        written = paste-zero before 0 (map packed l.spots);
      }

  module _ {rest : List ℕ} {laid : ℕ} {after : List ℕ} (u : LaidUpto rest laid after) where
    pub laid-length : length after ≡ length before
    laid-length =
        ap length u.written
        ∙ length-paste before 0 (map packed u.whole) laid (omega (arith, u.upto, u.fits)) (rw length-map (omega (arith, u.upto, u.counted)))

    module _ (more : laid < count) where
      -- the spot that is next, and the others
      next-is : (r : Option NextSpot) → Spotted rest r → SpotIs (get_or u.whole laid no_spot) (drop (suc laid) u.whole) r
      unfolding Spotted
      next-is r s = s _ _ (subst (Names rest) (drop-cons u.whole laid no_spot (omega (arith, u.counted))) u.left)

      pub laid-not : Spotted rest None → ⊥
      laid-not s = next-is None s

      pub laid_more : (r : NextSpot) → Spotted rest (Some r) → LaidUpto r.behind.now (laid + 1) (set after laid r.spot)
      unfolding no_spot packed byte_of
      laid_more r s =
          let is = next-is (Some r) s in
          record {
            whole = u.whole;
            its = u.its;
            counted = u.counted;
            fits = u.fits;
            upto = omega arith;
            left = rw add-one is.1;
            written =
                ap₂ (λ (l : List ℕ) (v : ℕ). set l laid v) u.written (is.0 ∙ sym (get_or-map packed u.whole laid no_spot))
                ∙ ap (λ (k : ℕ). set (paste before 0 (map packed u.whole) laid) k (get_or (map packed u.whole) laid 0)) (sym (zero-add laid))
                ∙ paste-suc before 0 (map packed u.whole) laid 0 (omega (arith, u.fits)) (rw length-map (omega (arith, u.counted)))
                ∙ ap (paste before 0 (map packed u.whole)) (sym (add-one laid));
          }

    pub laid-all : count ≤ laid → (spots : List Spot) → Names text spots → after ≡ map packed spots ++ drop (length spots) before
    unfolding Names
    laid-all l spots its =
        let same : u.whole ≡ spots = handicap-same (sym u.its ∙ its) in
        let all : laid ≡ length u.whole = omega (arith, u.upto, u.counted) in
        u.written
        ∙ ap₂ (λ (t : List ℕ) (k : ℕ). t ++ drop k before) (take_all laid (map packed u.whole) (rw length-map (omega arith))) (zero-add laid ∙ all)
        ∙ ap (λ (w : List Spot). map packed w ++ drop (length w) before) same

-- ---- The next spot

-- a number that is read is the written one, capped
numeral-is : (o : Option ℕ) (n : ℕ) → Some n ≡ numeral o → (m : ℕ) × (o ≡ Some m) × (n ≡ min m most)
unfolding numeral
numeral-is None n e = absurd (none-some n (sym e))
numeral-is (Some m) n e = (m, refl, same_Some n (min m most) e)

numeral-none : (o : Option ℕ) → None ≡ numeral o → o ≡ None
unfolding numeral
numeral-none None e = refl
numeral-none (Some m) e = absurd (none-some (min m most) e)

-- what is no pair at the front names no spot
odd : (w : Option ℕ) (spot : Spot) (others : List Spot) → handicap_of (consed w (Some [])) ≡ Handicap (spot ∷ others) → ⊥
unfolding consed handicap_of spotted pairs
odd None spot others e = no-handicap e
odd (Some n) spot others e = no-handicap e

broken : (w : Option ℕ) (o : Option (List ℕ)) (spot : Spot) (others : List Spot) → handicap_of (consed w (consed None o)) ≡ Handicap (spot ∷ others) → ⊥
unfolding consed handicap_of
broken None o spot others e = no-handicap e
broken (Some n) o spot others e = no-handicap e

-- a word that writes no number
unwritten : {ws : List (List ℕ)} {word : List ℕ} {others : List (List ℕ)} → ws ≡ word ∷ others → None ≡ numeral (number_of word) → numbers ws ≡ None
unfolding numbers consed
unwritten {ws} {word} {others} e f = ap numbers e ∙ ap (λ (w : Option ℕ). consed w (numbers others)) (numeral-none (number_of word) f)

-- words that name no spot, whatever was read of them
module _ (text : List ℕ) where
  pub spotted-end : words text ≡ [] → (r : Option NextSpot) → Spotted text r
  unfolding Spotted Names numbers handicap_of spotted pairs
  spotted-end e r spot others its = absurd (no-spot (sym (ap (λ (ws : List (List ℕ)). handicap_of (numbers ws)) e) ∙ its))

  pub spotted-bad : numbers (words text) ≡ None → (r : Option NextSpot) → Spotted text r
  unfolding Spotted Names handicap_of
  spotted-bad e r spot others its = absurd (no-handicap (sym (ap handicap_of e) ∙ its))

-- a row, if it is a number, and the numbers of the words behind it
module _ (text second : List ℕ) (row : Option ℕ) (e : numbers (words text) ≡ consed row (numbers (words second))) where
  -- a row with no column behind it is none
  pub spotted-odd : words second ≡ [] → (r : Option NextSpot) → Spotted text r
  unfolding Spotted Names numbers
  spotted-odd f r spot others its =
      absurd (odd row spot others (sym (ap handicap_of (e ∙ ap (λ (ws : List (List ℕ)). consed row (numbers ws)) f)) ∙ its))

  pub spotted-broken : numbers (words second) ≡ None → (r : Option NextSpot) → Spotted text r
  unfolding Spotted Names consed
  spotted-broken f r spot others its = absurd (broken row (Some []) spot others (sym (ap handicap_of (e ∙ ap (consed row) f)) ∙ its))

-- the same by the words, one after the other
module _ (text : List ℕ) {row : List ℕ} (second : List ℕ) (e : words text ≡ row ∷ words second) where
  -- the numbers, by the row and those behind it
  front : numbers (words text) ≡ consed (number_of row) (numbers (words second))
  unfolding numbers
  front = ap numbers e

  pub row-alone : words second ≡ [] → (r : Option NextSpot) → Spotted text r
  row-alone = spotted-odd text second (number_of row) front

  pub row-bad : None ≡ numeral (number_of row) → (r : Option NextSpot) → Spotted text r
  row-bad f = spotted-bad text (unwritten e f)

  module _ {column : List ℕ} (behind : List ℕ) (f : words second ≡ column ∷ words behind) where
    pub column-bad : None ≡ numeral (number_of column) → (r : Option NextSpot) → Spotted text r
    column-bad g = spotted-broken text second (number_of row) front (unwritten f g)

    both : handicap_of (numbers (words text)) ≡ handicap_of (consed (number_of row) (consed (number_of column) (numbers (words behind))))
    unfolding numbers
    both = ap handicap_of (front ∙ ap (λ (ws : List (List ℕ)). consed (number_of row) (numbers ws)) f)

    -- two numbers are a spot
    pub spotted-both : (r : NextSpot) {n m : ℕ} → Some n ≡ numeral (number_of row) → Some m ≡ numeral (number_of column) → r.spot ≡ 256 * byte_of n + byte_of m → r.behind.now ≡ behind → Spotted text (Some r)
    unfolding Spotted Names packed
    spotted-both r {n} {m} g h k b spot others its =
        let one = numeral-is (number_of row) n g in
        let two = numeral-is (number_of column) m h in
        let step = spot-step one.0 two.0 (numbers (words behind)) spot others
        (sym (both ∙ ap₂ (λ (v w : Option ℕ). handicap_of (consed v (consed w (numbers (words behind))))) one.1 two.1) ∙ its) in (
          k
              ∙ ap₂ (λ (a c : ℕ). 256 * a + c) (ap byte_of one.2 ∙ byte-capped one.0) (ap byte_of two.2 ∙ byte-capped two.0)
              ∙ ap (λ (s : Spot). 256 * byte_of s.row + byte_of s.column) (sym step.0),
          ap (λ (t : List ℕ). handicap_of (numbers (words t))) b ∙ step.1,
        )
