-- Laws of a handicap: its numbers in pairs, and what is read of them.
use Rattle.std.specs.Prelude.{◌≡◌, refl, Bool, List, [], ◌∷◌, ◌++◌, map, ℕ, ◌/◌, ◌%◌, ◌≤◌, ◌<◌, Option, None, Some, Ok, Err}
use Rattle.std.proofs.Math.Path.{sym, ap}
use Rattle.std.proofs.Common.{◌∙◌, le-leb}
use Rattle.std.proofs.Math.Bool.{cond}
use native.Mathlib.Omega.{arith}
use Rattle.std.proofs.Math.ListN.{length, drop}
use Rattle.std.proofs.lemmas.Bool.{lt-leb}
use Rattle.std.proofs.lemmas.Option.{none-some, same_Some}
use Rattle.rules.specs.Calls.{Spot}
use Rattle.lines.specs.declared.command.Read.TheVariants as reads
use Rattle.lines.specs.declared.command.Fault.{Fault}
use Rattle.lines.specs.declared.command.Fault.TheVariants as faults
use Rattle.spelling.specs.Number.{consed}
use Rattle.lines.specs.Command.{Command, handicap_of, spotted, preceded, pairs}
use Rattle.lines.specs.Command as commands
use Rattle.lines.specs.Reads.{told, laid, laid_over, packed, Reads}
use Rattle.spelling.specs.Steps.{count_of}

-- ---- The numbers, in pairs

pub handicap-bad : (o : Option (List ℕ)) → None ≡ count_of o → handicap_of o ≡ commands.Wrong faults.Handicap
unfolding count_of handicap_of
handicap-bad None e = refl
handicap-bad (Some ns) e = absurd (none-some (length ns) e)

pairs-odd : (ns : List ℕ) → (length ns % 2 ≡ 0 → ⊥) → pairs ns ≡ None
unfolding pairs preceded
pairs-odd [] n = absurd (n refl)
pairs-odd (r ∷ []) n = refl
pairs-odd (r ∷ c ∷ ns) n = ap (preceded (record { row = r; column = c })) (pairs-odd ns (λ e. n (omega arith)))

pairs-even : (ns : List ℕ) → length ns % 2 ≡ 0 → (spots : List Spot) × (pairs ns ≡ Some spots) × (length spots ≡ length ns / 2)
unfolding pairs preceded
pairs-even [] e = ([], refl, refl)
pairs-even (r ∷ []) e = absurd (let z : ◌≡◌ {A = ℕ} 1 0 = e in omega arith)
pairs-even (r ∷ c ∷ ns) e =
    let s = pairs-even ns (omega arith) in
    let one : Spot = record { row = r; column = c } in
    (one ∷ s.0, ap (preceded one) s.1, omega (arith, s.2))

pub handicap-odd : (o : Option (List ℕ)) (n : ℕ) → Some n ≡ count_of o → (n % 2 ≡ 0 → ⊥) → handicap_of o ≡ commands.Wrong faults.Handicap
unfolding count_of handicap_of spotted
handicap-odd None n e odd = absurd (none-some n (sym e))
handicap-odd (Some ns) n e odd = let m : n ≡ length ns = same_Some n (length ns) e in ap spotted (pairs-odd ns (λ z. odd (ap (λ (k : ℕ). k % 2) m ∙ z)))

pub handicap-even : (o : Option (List ℕ)) (n : ℕ) → Some n ≡ count_of o → n % 2 ≡ 0 → (spots : List Spot) × (handicap_of o ≡ commands.Handicap spots) × (length spots ≡ n / 2)
unfolding count_of handicap_of spotted
handicap-even None n e even = absurd (none-some n (sym e))
handicap-even (Some ns) n e even =
    let m : n ≡ length ns = same_Some n (length ns) e in
    let s = pairs-even ns (ap (λ (k : ℕ). k % 2) (sym m) ∙ even) in
    (s.0, ap spotted s.1, s.2 ∙ ap (λ (k : ℕ). k / 2) (sym m))

-- the first spot, and the others
pub spot-step : (r c : ℕ) (o : Option (List ℕ)) (spot : Spot) (others : List Spot) → handicap_of (consed (Some r) (consed (Some c) o)) ≡ commands.Handicap (spot ∷ others)
    → (spot ≡ record { row = r; column = c }) × (handicap_of o ≡ commands.Handicap others)
unfolding consed handicap_of spotted pairs preceded
spot-step r c None spot others e = absurd (let z : ◌≡◌ {A = ℕ} 0 1 = cc in omega arith)
spot-step r c (Some ns) spot others e = paired (pairs ns) e
  where
    paired : (p : Option (List Spot)) → spotted (preceded (record { row = r; column = c }) p) ≡ commands.Handicap (spot ∷ others)
        → (spot ≡ record { row = r; column = c }) × (spotted p ≡ commands.Handicap others)
    paired None f = absurd (let z : ◌≡◌ {A = ℕ} 0 1 = cc in omega arith)
    paired (Some spots) f = (cc, cc)

pub no-spot : {spot : Spot} {others : List Spot} → commands.Handicap [] ≡ commands.Handicap (spot ∷ others) → ⊥
no-spot e = let z : ◌≡◌ {A = ℕ} 0 1 = cc in omega arith

pub no-handicap : {spots : List Spot} {fault : Fault} → commands.Wrong fault ≡ commands.Handicap spots → ⊥
no-handicap e = let z : ◌≡◌ {A = ℕ} 0 1 = cc in omega arith

pub handicap-same : {spots others : List Spot} → commands.Handicap spots ≡ commands.Handicap others → spots ≡ others
handicap-same e = cc

-- ---- What is read

module _ (before : List ℕ) {command : Command} (spots : List Spot) (its : command ≡ commands.Handicap spots) where
  pub handicap-short : length before < length spots → Reads command before (Err faults.Room) before
  unfolding laid_over
  handicap-short l =
      record {
        read = sym (ap (told (length before)) its ∙ ap (λ (t : Bool). cond t (Ok (reads.Handicap (length spots))) (Err faults.Room)) (lt-leb _ _ l));
        buffer = sym (ap (laid before) its ∙ ap (λ (t : Bool). cond t (map packed spots ++ drop (length spots) before) before) (lt-leb _ _ l));
      }

  pub handicap-laid : (after : List ℕ) (count : ℕ) → length spots ≡ count → count ≤ length before → after ≡ map packed spots ++ drop (length spots) before → Reads command before (Ok (reads.Handicap count)) after
  unfolding laid_over
  handicap-laid after count n m e =
      let l : length spots ≤ length before = omega arith in
      record {
        read = ap (λ (k : ℕ). Ok (reads.Handicap k)) (sym n) ∙ sym (ap (told (length before)) its ∙ ap (λ (t : Bool). cond t (Ok (reads.Handicap (length spots))) (Err faults.Room)) (le-leb _ _ l));
        buffer = e ∙ sym (ap (laid before) its ∙ ap (λ (t : Bool). cond t (map packed spots ++ drop (length spots) before) before) (le-leb _ _ l));
      }
