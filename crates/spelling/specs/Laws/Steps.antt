-- Laws of Steps: the numbers of a text, by those that are found and those of the rest.
use Rattle.std.specs.Prelude.{◌≡◌, refl, Bool, true, false, cond, List, [], ◌∷◌, ◌++◌, map, ℕ, ◌+◌, ◌<◌, ◌≤◌, eqb, min, length, take, set, Option, None, Some}
use Rattle.std.proofs.Common.{sym, ap, ◌∙◌, true≢false, append_assoc, zero-add, add-zero, add-one, arith, append-nil, length-append, length-set, length-take-le, take_all, take-suc-set}
use Rattle.std.proofs.lemmas.Bool.{false≢true}
use Rattle.std.proofs.lemmas.List.{length-map}
use borrow.Author.Tests.{eq-eqb, ne_eqb}
use Rattle.std.proofs.lemmas.Option.{none-some, same_Some}
use Rattle.spelling.specs.Text.{words}
use Rattle.spelling.specs.Number.{number_of, numbers, consed}
use Rattle.spelling.specs.Steps.{most, numeral, ended, exactly, count_of}

-- ---- As many as the caller takes

-- the numbers as they are read
unfoldable pub capped : Option (List ℕ) → Option (List ℕ)
capped None = None
capped (Some ns) = Some (map (λ m. min m most) ns)

-- those that are found, then those of the rest
unfoldable pub after : List ℕ → Option (List ℕ) → Option (List ℕ)
after found None = None
after found (Some ns) = Some (found ++ ns)

-- the first i numbers of the text are found
pub record Upto (text rest found : List ℕ) (i : ℕ) : Type 0 where
  pub long : i ≤ length found
  pub reads : capped (numbers (words text)) ≡ after (take i found) (capped (numbers (words rest)))

pub upto-none : (text found : List ℕ) → Upto text text found 0
unfolding after
upto-none text found = record { long = omega arith; reads = same (capped (numbers (words text))) }
  where
    same : (o : Option (List ℕ)) → o ≡ after [] o
    same None = refl
    same (Some ns) = refl

-- one number behind those that are found
join : (xs ys : List ℕ) (o : Option (List ℕ)) → after xs (after ys o) ≡ after (xs ++ ys) o
unfolding after
join xs ys None = refl
join xs ys (Some ns) = ap Some (sym (append_assoc xs ys ns))

one : (n : ℕ) (w : Option ℕ) (o : Option (List ℕ)) → Some n ≡ numeral w → capped (consed w o) ≡ after (n ∷ []) (capped o)
unfolding numeral capped consed after
one n None o e = absurd (none-some n (sym e))
one n (Some m) None e = refl
one n (Some m) (Some ns) e = ap (λ (k : ℕ). Some (k ∷ map (λ m'. min m' most) ns)) (sym (same_Some n (min m most) e))

broken : (w : Option ℕ) (o : Option (List ℕ)) → None ≡ numeral w → capped (consed w o) ≡ None
unfolding numeral capped consed
broken None o e = refl
broken (Some m) o e = absurd (none-some (min m most) e)

-- how many there are tells whether they are as many as the caller takes
fitting : ℕ → Option (List ℕ) → Option (List ℕ)
fitting n None = None
fitting n (Some ns) = cond (eqb (length ns) n) (Some ns) None

fits : (n : ℕ) (o : Option (List ℕ)) → exactly n o ≡ fitting n (capped o)
unfolding exactly fitting capped
fits n None = refl
fits n (Some ns) = ap (λ (k : ℕ). cond (eqb k n) (Some (map (λ m. min m most) ns)) None) (sym (length-map ns (λ m. min m most)))

over : (n : ℕ) (xs : List ℕ) → (length xs ≡ n → ⊥) → None ≡ fitting n (Some xs)
unfolding fitting
over n xs h = ap (λ (t : Bool). cond t (Some xs) None) (sym (ne_eqb (length xs) n h))

just : (n : ℕ) (xs : List ℕ) → length xs ≡ n → Some xs ≡ fitting n (Some xs)
unfolding fitting
just n xs h = ap (λ (t : Bool). cond t (Some xs) None) (sym (eq-eqb (length xs) n h))

module _ {text rest found : List ℕ} {i : ℕ} (u : Upto text rest found i) where
  module _ {w : List ℕ} (behind : List ℕ) (e : words rest ≡ w ∷ words behind) where
    pub upto-more : (n : ℕ) → Some n ≡ numeral (number_of w) → i < length found → Upto text behind (set found i n) (i + 1)
    unfolding numbers
    upto-more n f l =
        record {
          long = rw (length-set found i n) (omega arith);
          reads =
              u.reads
              ∙ ap (λ (ws : List (List ℕ)). after (take i found) (capped (numbers ws))) e
              ∙ ap (after (take i found)) (one n (number_of w) (numbers (words behind)) f)
              ∙ join (take i found) (n ∷ []) (capped (numbers (words behind)))
              ∙ ap (λ (xs : List ℕ). after xs (capped (numbers (words behind)))) (sym (rw add-one (take-suc-set found i n l)));
        }

    pub upto-bad : (m : ℕ) → None ≡ numeral (number_of w) → None ≡ exactly m (numbers (words text))
    unfolding numbers after fitting
    upto-bad m f =
        sym (fits m (numbers (words text))
        ∙ ap (fitting m) (u.reads
        ∙ ap (λ (ws : List (List ℕ)). after (take i found) (capped (numbers ws))) e
        ∙ ap (after (take i found)) (broken (number_of w) (numbers (words behind)) f)))

  -- no word is left
  all : words rest ≡ [] → capped (numbers (words text)) ≡ Some (take i found)
  unfolding numbers after capped
  all e = u.reads ∙ ap (λ (ws : List (List ℕ)). after (take i found) (capped (numbers ws))) e ∙ ap Some (append-nil (take i found))

  pub upto-few : (m : ℕ) → words rest ≡ [] → i < m → None ≡ exactly m (numbers (words text))
  upto-few m e l =
      over m (take i found) (λ h. let k : length (take i found) ≡ i = length-take-le i found u.long in omega arith)
      ∙ sym (fits m (numbers (words text)) ∙ ap (fitting m) (all e))

  -- nothing behind as many numbers as the caller takes
  pub upto-whole : (m : ℕ) → ended (words rest) ≡ true → length found ≡ m → m ≤ i → Some found ≡ exactly m (numbers (words text))
  unfolding ended
  upto-whole m e l h =
      just m found l
      ∙ sym (fits m (numbers (words text)) ∙ ap (fitting m) (all (none_left (words rest) e) ∙ ap Some (take_all i found (omega arith))))
    where
      none_left : (ws : List (List ℕ)) → ended ws ≡ true → ws ≡ []
      none_left [] f = refl
      none_left (w ∷ ws) f = absurd (false≢true f)

  pub upto-many : (m : ℕ) → ended (words rest) ≡ false → m ≤ i → None ≡ exactly m (numbers (words text))
  unfolding ended numbers after fitting capped consed
  upto-many m e h = sym (fits m (numbers (words text)) ∙ ap (fitting m) u.reads ∙ more (words rest) e)
    where
      beyond : (w : Option ℕ) (o : Option (List ℕ)) → fitting m (after (take i found) (capped (consed w o))) ≡ None
      beyond None o = refl
      beyond (Some n) None = refl
      beyond (Some n) (Some ns) =
          sym (over m (take i found ++ (min n most ∷ map (λ k. min k most) ns)) (λ e'.
          let k : length (take i found) ≡ i = length-take-le i found u.long in
          omega (arith, length-append (take i found) (min n most ∷ map (λ k'. min k' most) ns))))

      more : (ws : List (List ℕ)) → ended ws ≡ false → fitting m (after (take i found) (capped (numbers ws))) ≡ None
      more [] f = absurd (true≢false f)
      more (w ∷ ws) f = beyond (number_of w) (numbers ws)

pub exactly-other : (n : ℕ) (ns : List ℕ) → (length ns ≡ n → ⊥) → exactly n (Some ns) ≡ None
unfolding exactly
exactly-other n ns h = ap (λ (t : Bool). cond t (Some (map (λ m. min m most) ns)) None) (ne_eqb (length ns) n h)

-- ---- Counting

-- k numbers and those of the rest
unfoldable pub count_more : ℕ → Option (List ℕ) → Option ℕ
count_more k None = None
count_more k (Some ns) = Some (k + length ns)

pub count_none : (o : Option (List ℕ)) → count_of o ≡ count_more 0 o
unfolding count_of count_more
count_none None = refl
count_none (Some ns) = ap Some (sym (zero-add (length ns)))

pub count-step : (k n : ℕ) (o : Option (List ℕ)) → count_more k (consed (Some n) o) ≡ count_more (k + 1) o
unfolding consed count_more
count-step k n None = refl
count-step k n (Some ns) = ap Some (let e : k + length (n ∷ ns) ≡ k + 1 + length ns = omega arith in e)

module _ (k : ℕ) {ws : List (List ℕ)} where
  pub count-last : ws ≡ [] → Some k ≡ count_more k (numbers ws)
  unfolding numbers count_more
  count-last e = sym (ap (λ (vs : List (List ℕ)). count_more k (numbers vs)) e ∙ ap Some (add-zero k))

  module _ {w : List ℕ} {others : List (List ℕ)} (e : ws ≡ w ∷ others) where
    -- a word that writes a number
    pub count-good : (n : ℕ) → Some n ≡ numeral (number_of w) → count_more k (numbers ws) ≡ count_more (k + 1) (numbers others)
    unfolding numbers numeral
    count-good n f = ap (λ (vs : List (List ℕ)). count_more k (numbers vs)) e ∙ more (number_of w) (numbers others) f
      where
        more : (v : Option ℕ) (o : Option (List ℕ)) → Some n ≡ numeral v → count_more k (consed v o) ≡ count_more (k + 1) o
        more None o f = absurd (none-some n (sym f))
        more (Some m) o f = count-step k m o

    pub count-bad : None ≡ numeral (number_of w) → count_more k (numbers ws) ≡ None
    unfolding numbers numeral consed count_more
    count-bad f = ap (λ (vs : List (List ℕ)). count_more k (numbers vs)) e ∙ bad (number_of w) (numbers others) f
      where
        bad : (v : Option ℕ) (o : Option (List ℕ)) → None ≡ numeral v → count_more k (consed v o) ≡ None
        bad None o f = refl
        bad (Some m) o f = absurd (none-some (min m most) f)
