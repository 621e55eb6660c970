-- Laws of Text: the words by the first byte, and by the first word.
use Rattle.std.specs.Prelude.{◌≡◌, refl, Bool, true, false, cond, not, ◌&&◌, List, [], ◌∷◌, ◌++◌, ℕ, suc, ◌+◌, ◌-◌, eqb, length, get_or, take, drop, Option, None, Some, MatchOption}
use Rattle.std.specs.List.{prefix_len}
use Rattle.std.specs.Option.{unwrap_or}
use Rattle.std.specs.Cmp.Lexicographic.{pointwise}
use Rattle.std.proofs.Common.{Bor, sym, ap, ap₂, ◌∙◌, subst, ⊎_elim, arith, one-add, take-append-drop}
use Rattle.std.proofs.lemmas.List.{take_rest, drop_all}
use Rattle.std.proofs.Math.Seq.{drop-cons, take-length}
use Rattle.rules.proofs.Laws.Lists.{decided}
use Rattle.spelling.specs.Text.{blank, carriage_return, text_length, text_of, word, words_from, words}
use Rattle.spelling.specs.Steps.{blanks, letters}

-- ---- By the first byte

pub words-blank : (fresh : Bool) (b : ℕ) (l : List ℕ) → blank b ≡ true → words_from fresh (b ∷ l) ≡ words_from true l
words-blank fresh b l e = rw (e, words_from)

pub words_inside : (b : ℕ) (l : List ℕ) → blank b ≡ false → words_from false (b ∷ l) ≡ words_from false l
words_inside b l e = rw (e, words_from)

pub words-begin : (b : ℕ) (l : List ℕ) → blank b ≡ false → words_from true (b ∷ l) ≡ word (b ∷ l) ∷ words_from false l
words-begin b l e = rw (e, words_from)

word_ends : (b : ℕ) (l : List ℕ) → blank b ≡ true → word (b ∷ l) ≡ []
word_ends b l e = rw (e, word)

word_more : (b : ℕ) (l : List ℕ) → blank b ≡ false → word (b ∷ l) ≡ b ∷ word l
word_more b l e = rw (e, word)

module _ (b : ℕ) (l : List ℕ) where
  one_more : (p : ℕ → Bool) → p b ≡ true → prefix_len p (b ∷ l) ≡ suc (prefix_len p l)
  one_more p t = ap (λ (c : Bool). cond c (1 + prefix_len p l) 0) t ∙ one-add (prefix_len p l)

  no_more : (p : ℕ → Bool) → p b ≡ false → prefix_len p (b ∷ l) ≡ 0
  no_more p t = ap (λ (c : Bool). cond c (1 + prefix_len p l) 0) t

  blank_more : blank b ≡ true → blanks (b ∷ l) ≡ suc (blanks l)
  blank_more t = one_more blank t

  blanks_end : blank b ≡ false → blanks (b ∷ l) ≡ 0
  blanks_end t = no_more blank t

  letter_more : blank b ≡ false → letters (b ∷ l) ≡ suc (letters l)
  letter_more t = one_more (λ c. not (blank c)) (ap not t)

  letters_end : blank b ≡ true → letters (b ∷ l) ≡ 0
  letters_end t = no_more (λ c. not (blank c)) (ap not t)

-- ---- By the first word

-- blanks before the words are passed over
skipped : (l : List ℕ) → words_from true l ≡ words_from true (drop (blanks l) l)
skipped [] = refl
skipped (b ∷ l) =
    ⊎_elim (λ t. words-blank true b l t ∙ skipped l ∙ ap (λ (n : ℕ). words_from true (drop n (b ∷ l))) (sym (blank_more b l t)))
    (λ t. ap (λ (n : ℕ). words_from true (drop n (b ∷ l))) (sym (blanks_end b l t)))
    (decided (blank b))

-- the rest of a word is passed over
behind : (l : List ℕ) → words_from false l ≡ words_from true (drop (letters l) l)
behind [] = refl
behind (b ∷ l) =
    ⊎_elim (λ t. words-blank false b l t ∙ sym (words-blank true b l t) ∙ ap (λ (n : ℕ). words_from true (drop n (b ∷ l))) (sym (letters_end b l t)))
    (λ t. words_inside b l t ∙ behind l ∙ ap (λ (n : ℕ). words_from true (drop n (b ∷ l))) (sym (letter_more b l t)))
    (decided (blank b))

whole : (l : List ℕ) → word l ≡ take (letters l) l
whole [] = refl
whole (b ∷ l) =
    ⊎_elim (λ t. word_ends b l t ∙ ap (λ (n : ℕ). take n (b ∷ l)) (sym (letters_end b l t)))
    (λ t. word_more b l t ∙ ap (λ (w : List ℕ). b ∷ w) (whole l) ∙ ap (λ (n : ℕ). take n (b ∷ l)) (sym (letter_more b l t)))
    (decided (blank b))

-- a text that begins with no blank begins with a word, if it has one
begun : (l : List ℕ) → blanks l ≡ 0 → letters l ≡ 0 → l ≡ []
begun [] e f = refl
begun (b ∷ l) e f =
    ⊎_elim (λ t. absurd (let z = blank_more b l t in omega arith)) (λ t. absurd (let z = letter_more b l t in omega arith)) (decided (blank b))

first : (l : List ℕ) → blanks l ≡ 0 → (letters l ≡ 0 → ⊥) → words_from true l ≡ take (letters l) l ∷ words_from true (drop (letters l) l)
first [] e n = absurd (n refl)
first (b ∷ l) e n =
    ⊎_elim (λ t. absurd (let z = blank_more b l t in omega arith))
    (λ t. words-begin b l t
    ∙ ap₂ {C = List (List ℕ)} (λ (w : List ℕ) (ws : List (List ℕ)). w ∷ ws) (whole (b ∷ l)) (sym (words_inside b l t) ∙ behind (b ∷ l)))
    (decided (blank b))

-- behind the blanks there are none
fresh : (l : List ℕ) → blanks (drop (blanks l) l) ≡ 0
fresh [] = refl
fresh (b ∷ l) =
    ⊎_elim (λ t. ap (λ (n : ℕ). blanks (drop n (b ∷ l))) (blank_more b l t) ∙ fresh l)
    (λ t. ap (λ (n : ℕ). blanks (drop n (b ∷ l))) (blanks_end b l t) ∙ blanks_end b l t)
    (decided (blank b))

-- the text behind i blanks is cut behind the n bytes that are none
module _ (text : List ℕ) (i n : ℕ) (e : i ≡ blanks text) (f : n ≡ letters (take (length text - i) (drop i text))) where
  rest : List ℕ
  rest = drop (blanks text) text

  its : take (length text - i) (drop i text) ≡ rest
  unfolding rest
  its = take_rest text i ∙ ap (λ (m : ℕ). drop m text) e

  cut : n ≡ letters rest
  cut = f ∙ ap letters its

  pub words-whole : take n (take (length text - i) (drop i text)) ++ drop n (take (length text - i) (drop i text)) ≡ drop (blanks text) text
  unfolding rest
  words-whole = take-append-drop n (take (length text - i) (drop i text)) ∙ its

  pub words-none : n ≡ 0 → words text ≡ []
  unfolding words rest
  words-none z = skipped text ∙ ap (words_from true) (begun rest (fresh text) (sym cut ∙ z))

  pub words-some : (n ≡ 0 → ⊥) → words text ≡ take n (take (length text - i) (drop i text)) ∷ words (drop n (take (length text - i) (drop i text)))
  unfolding words rest
  words-some z =
      subst (λ (r : List ℕ). words_from true text ≡ take n r ∷ words_from true (drop n r)) (sym its)
      (subst (λ (m : ℕ). words_from true text ≡ take m rest ∷ words_from true (drop m rest)) (sym cut)
      (skipped text ∙ first rest (fresh text) (λ k. z (cut ∙ k))))

-- ---- The end of a line

-- a list's last element alone
last_one : (l : List ℕ) (i : ℕ) → length l ≡ suc i → drop i l ≡ get_or l i 0 ∷ []
last_one l i e = drop-cons l i 0 (omega arith) ∙ ap (λ (r : List ℕ). get_or l i 0 ∷ r) (drop_all (suc i) l (omega arith))

-- the last byte is asked, if there is one
last : (l : List ℕ) → pointwise eqb (drop (length l - 1) l) (carriage_return ∷ []) ≡ eqb (get_or l (length l - 1) 0) carriage_return
last [] = refl
last (b ∷ l) =
    let k : suc (length l) - 1 ≡ length l = omega arith in
    rw k (ap (λ (r : List ℕ). pointwise eqb r (carriage_return ∷ [])) (last_one (b ∷ l) (length l) refl) ∙ and_true (eqb (get_or (b ∷ l) (length l) 0) carriage_return))
  where
    and_true : (t : Bool) → t && true ≡ t
    and_true true = refl
    and_true false = refl

pub stripped : (line : Bor (List ℕ)) (o : Option (Bor (List ℕ)))
    → MatchOption o (pointwise eqb (drop (length line.now - 1) line.now) (carriage_return ∷ []) ≡ false)
    (λ x. (pointwise eqb (drop (length line.now - 1) line.now) (carriage_return ∷ []) ≡ true) × (x.now ≡ take (length line.now - 1) line.now) × (length x.now + 1 ≡ length line.now))
    → (unwrap_or o line).now ≡ text_of line.now
unfolding text_of text_length
stripped line None h =
    let l = line.now in
    sym (ap (λ (t : Bool). take (cond t (length l - 1) (length l)) l) (sym (last l) ∙ h) ∙ take-length l)
stripped line (Some x) h =
    let l = line.now in
    h.1 ∙ sym (ap (λ (t : Bool). take (cond t (length l - 1) (length l)) l) (sym (last l) ∙ h.0))
