-- Going through spots: what is left of them tells the answer and the colours of all, and their stones are Black's.
use Rattle.std.specs.Prelude.{◌≡◌, Bool, true, false, ◌&&◌, ◌||◌, ◌≢◌, ℕ, zero, suc, ◌+◌, ◌≤◌, ◌<◌, ltb, leb, length, get_or, drop, set, Result, Ok, Err}
use Rattle.std.proofs.Math.Path.{refl, sym, ap}
use Rattle.std.proofs.Common.{ap₂, ◌∙◌, subst, ⊎_elim, arith, drop_of_length-le, drop-cons, eq-eqb, ne_eqb, ltb-true, ltb-false, le-leb}
use Rattle.std.proofs.Math.Bool.{not}
use mathlib.Core.List.{List, [], ◌∷◌}
use Rattle.std.proofs.Math.Numerals.{add-one}
use Rattle.std.proofs.Math.ListN.{take, replicate, length-set, length-replicate}
use Rattle.std.proofs.Math.Seq.{get_or-take, take-set-lt}
use Rattle.std.proofs.lemmas.Bool.{lt-leb}
use Rattle.rules.specs.Sizes.{max_area}
use Rattle.rules.specs.Colours.{empty, black, white, at}
use Rattle.rules.specs.Points.{area, index}
use Rattle.rules.specs.Answers.{Accepted, OffBoard, PointNotEmpty, number, accepts}
use Rattle.rules.specs.Move.{coloured}
use Rattle.rules.specs.Game.{TrueSize, empty_board}
use Rattle.rules.specs.Calls.{Spot, outside, lay_black, spots_answer, lay_answer}
use Rattle.rules.proofs.Laws.Lists.{and_left, and_right, decided}
use Rattle.rules.proofs.Laws.Points.{index_on}
use Rattle.board.specs.Laws.Board.{area-fits}
use Rattle.board.specs.declared.goban.Board.{Board}
use Rattle.points.specs.Reason.{reason}
use Rattle.points.specs.declared.answers.Refusal.{Refusal}
use Rattle.points.proofs.Reasons.{refuses}
use Rattle.placing.specs.declared.place.Placed.{Placed}
use Rattle.placing.specs.Placing.{Outcome, Bare, Placing, PlacedOn, spot_of, spots_of, told, MarkedOut, Handicapped}
use Rattle.placing.specs.Laws.Colours.{coloured-length, coloured-known, empty-length, empty-at}
use Rattle.rules.proofs.Laws.Answers.{test-refuses, test-passes}
use Rattle.placing.specs.Laws.Answers.{outcome-refused, outcome-as, lay-spots, lay-choked}

take-replicate : {A : Type 0} (n m : ℕ) (a : A) → n ≤ m → take n (replicate m a) ≡ replicate n a
take-replicate zero m a l = refl
take-replicate (suc n) zero a l = absurd (omega arith)
take-replicate (suc n) (suc m) a l = ap (λ xs. a ∷ xs) (take-replicate n m a (omega arith))

-- ---- The stones

pub laid-length : (w : ℕ) (cols : List ℕ) (spots : List Spot) → length (lay_black w cols spots) ≡ length cols
laid-length w cols [] = refl
laid-length w cols (s ∷ spots) =
    laid-length w (coloured cols black (index w s.row s.column)) spots ∙ coloured-length cols black (index w s.row s.column)

pub laid-known : (w : ℕ) (cols : List ℕ) (spots : List Spot) → ((q : ℕ) → at cols q ≤ white) → (q : ℕ) → at (lay_black w cols spots) q ≤ white
laid-known w cols [] known = known
laid-known w cols (s ∷ spots) known =
    laid-known w (coloured cols black (index w s.row s.column)) spots
    (coloured-known cols black (index w s.row s.column) (omega arith) known)

-- ---- A place of the board, by the code's test

pub inside : (h w r c : ℕ) → ltb r h && ltb c w ≡ true → outside h w r c ≡ false
unfolding outside
inside h w r c e =
    ap₂ (λ (s t : Bool). s || t) (lt-leb h r (ltb-true r h (and_left (ltb r h) (ltb c w) e))) (lt-leb w c (ltb-true c w (and_right (ltb r h) (ltb c w) e)))

pub not-inside : (h w r c : ℕ) → ltb r h && ltb c w ≡ false → outside h w r c ≡ true
unfolding outside
not-inside h w r c e =
    ⊎_elim
    (λ s. ap₂ (λ (t u : Bool). t || u) (lt-leb h r (ltb-true r h s)) (le-leb w c (ltb-false c w (sym (ap (λ (t : Bool). t && ltb c w) s) ∙ e))))
    (λ s. ap (λ (t : Bool). t || leb w c) (le-leb h r (ltb-false r h s)))
    (decided (ltb r h))

-- ---- The first i spots are marked

pub record Marking (h w : ℕ) (spots : List ℕ) (colours : List ℕ) (i : ℕ) : Type 0 where
  pub long : length colours ≡ max_area
  pub answer : spots_answer h w (empty_board h w) (spots_of spots) ≡ spots_answer h w (take (area h w) colours) (spots_of (drop i spots))
  pub stones : lay_black w (empty_board h w) (spots_of spots) ≡ lay_black w (take (area h w) colours) (spots_of (drop i spots))

module _ (h w : ℕ) (size : TrueSize h w) (spots : List ℕ) where
  pub marking-none : Marking h w spots (replicate max_area empty) 0
  unfolding empty_board
  marking-none =
      let same : take (area h w) (replicate max_area empty) ≡ replicate (area h w) empty = take-replicate (area h w) max_area empty (area-fits size) in
      record {
        long = length-replicate max_area empty;
        answer = ap (λ (cols : List ℕ). spots_answer h w cols (spots_of spots)) (sym same);
        stones = ap (λ (cols : List ℕ). lay_black w cols (spots_of spots)) (sym same);
      }

  module _ (colours : List ℕ) (i : ℕ) (is : Marking h w spots colours i) where
    abbrev cols : List ℕ
    cols = take (area h w) colours

    module _ (on : i < length spots) where
      abbrev spot : Spot
      spot = spot_of (get_or spots i 0)

      abbrev point : ℕ
      point = index w spot.row spot.column

      abbrev left : List Spot
      left = spots_of (drop (suc i) spots)

      next-spot : spots_of (drop i spots) ≡ spot ∷ left
      next-spot = ap spots_of (drop-cons spots i 0 on)

      answer-here : spots_answer h w (empty_board h w) (spots_of spots) ≡ spots_answer h w cols (spot ∷ left)
      answer-here = is.answer ∙ ap (spots_answer h w cols) next-spot

      pub marking-off : outside h w spot.row spot.column ≡ true → spots_answer h w (empty_board h w) (spots_of spots) ≡ OffBoard
      unfolding accepts number
      marking-off out = answer-here ∙ test-refuses OffBoard _ refl out

      module _ (ok : ltb spot.row h && ltb spot.column w ≡ true) where
        pub marking-on : point < area h w
        marking-on = index_on (ltb-true spot.row h (and_left _ _ ok)) (ltb-true spot.column w (and_right (ltb spot.row h) _ ok))

        colour-here : at cols point ≡ get_or colours point 0
        unfolding at
        colour-here = get_or-take (area h w) colours point empty marking-on

        pub marking-repeat : get_or colours point 0 ≢ 0 → spots_answer h w (empty_board h w) (spots_of spots) ≡ PointNotEmpty
        unfolding accepts number
        marking-repeat n =
            answer-here
            ∙ test-passes OffBoard _ (inside h w spot.row spot.column ok)
            ∙ test-refuses PointNotEmpty _ refl (ap not (ne_eqb (at cols point) empty (λ z. n (sym colour-here ∙ z))))

        pub marking-next : get_or colours point 0 ≡ 0 → Marking h w spots (set colours point black) (i + 1)
        unfolding coloured
        marking-next free =
            let same : take (area h w) (set colours point black) ≡ coloured cols black point = take-set-lt (area h w) colours point black marking-on in
            rw add-one
            (record {
              long = length-set colours point black ∙ is.long;
              answer =
                  answer-here
                  ∙ test-passes OffBoard _ (inside h w spot.row spot.column ok)
                  ∙ test-passes PointNotEmpty _ (ap not (eq-eqb (at cols point) empty (colour-here ∙ free)))
                  ∙ ap (λ (l : List ℕ). spots_answer h w l left) (sym same);
              stones = is.stones ∙ ap (lay_black w cols) next-spot ∙ ap (λ (l : List ℕ). lay_black w l left) (sym same);
            })

    module _ (end : length spots ≤ i) where
      none_left : spots_of (drop i spots) ≡ []
      none_left = ap spots_of (drop_of_length-le spots end)

      pub marking-accepted : spots_answer h w (empty_board h w) (spots_of spots) ≡ Accepted
      marking-accepted = is.answer ∙ ap (spots_answer h w cols) none_left

      pub marking-stones : lay_black w (empty_board h w) (spots_of spots) ≡ cols
      marking-stones = is.stones ∙ ap (lay_black w cols) none_left

  -- ---- What going through them tells

  abbrev given : List Spot
  given = spots_of spots

  pub marked_refused : {r : Refusal} → spots_answer h w (empty_board h w) given ≡ reason r → MarkedOut h w given (Err r)
  marked_refused e = record { answered = sym e; marked = λ colours z. cc }

  pub marked_all : (colours : List ℕ) (i : ℕ) → Marking h w spots colours i → length spots ≤ i → MarkedOut h w given (Ok colours)
  marked_all colours i is end =
      record {
        answered = sym (marking-accepted colours i is end);
        marked = λ others z. let same : colours ≡ others = cc in ap (take (area h w)) (sym same) ∙ sym (marking-stones colours i is end);
      }

-- ---- A handicap

module _ (b : Board) (is : Bare b) (spots : List Spot) (m : Result (List ℕ) Refusal) (out : MarkedOut b.height b.width spots m) where
  abbrev points : ℕ
  points = area b.height b.width

  -- what an empty board's colours give is what the board's give
  on-bare :
      {r : Placed} →
      Outcome (lay_answer b.height b.width (empty_board b.height b.width) spots) b.height b.width
      (lay_black b.width (empty_board b.height b.width) spots) b r →
      Handicapped b spots r
  on-bare {r} o =
      subst
      (λ (cols : List ℕ). Outcome (lay_answer b.height b.width cols spots) b.height b.width (lay_black b.width cols spots) b r)
      (sym is.bare) o

  pub handicap-refused :
      (reason_for : Refusal) → m ≡ Err reason_for → (r : Placed) → r.answer ≡ number (reason reason_for) → r.board ≡ b →
      Handicapped b spots r
  handicap-refused reason_for e r number-of same =
      let its : spots_answer b.height b.width (empty_board b.height b.width) spots ≡ reason reason_for = sym out.answered ∙ ap told e in
      let bad = ap accepts its ∙ refuses reason_for in
      on-bare (outcome-as (sym (lay-spots b.height b.width (empty_board b.height b.width) spots bad)) (outcome-refused (number-of ∙ ap number (sym its)) bad same))

  module _ (colours : List ℕ) (z : m ≡ Ok colours) where
    ok : accepts (spots_answer b.height b.width (empty_board b.height b.width) spots) ≡ true
    unfolding accepts number
    ok = ap accepts (sym out.answered ∙ ap told z)

    pub handicap-placing : Placing b (take points colours)
    handicap-placing =
        record {
          onto = is;
          covers =
              ap length (out.marked colours z)
              ∙ laid-length b.width (empty_board b.height b.width) spots
              ∙ empty-length b.height b.width;
          known =
              subst (λ (cols : List ℕ). (q : ℕ) → at cols q ≤ white) (sym (out.marked colours z))
              (laid-known b.width (empty_board b.height b.width) spots (λ q. omega (arith, empty-at b.height b.width q)));
        }

    pub handicap-placed :
        (r : Placed) →
        PlacedOn b (take points colours) r →
        Handicapped b spots r
    handicap-placed r o =
        on-bare
        (outcome-as (sym (lay-choked b.height b.width (empty_board b.height b.width) spots ok))
        (subst
        (λ (cols : List ℕ). PlacedOn b cols r)
        (out.marked colours z) o))
