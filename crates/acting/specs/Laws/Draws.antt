-- Laws of the picture's reply: the bytes that were drawn are those of the rules, or the number is 3.
use Rattle.std.proofs.Math.Path.{◌≡◌, sym, ap}
use Rattle.std.proofs.Common.{◌∙◌, ⊎_elim, mul-le-mul}
use Rattle.std.specs.Prelude.{Bool, true, List, [], ◌++◌, ◌≢◌, ℕ, ◌+◌, ◌*◌, ◌≤◌, length, take}
use Rattle.std.proofs.Math.Bool.{cond}
use native.Mathlib.Omega.{arith}
use Rattle.std.proofs.Math.ListN.{drop}
use Rattle.std.proofs.Math.Seq.{take_at}
use Rattle.rules.specs.Sizes.{max_side}
use Rattle.rules.specs.Answers.{Damaged, number, accepts}
use Rattle.rules.specs.Game.{TrueSize}
use Rattle.rules.specs.Calls.{filled}
use Rattle.rules.specs.Picture.{picture, picture_bytes, picture_answer}
use Rattle.rules.proofs.Laws.Answers.{accepts-zero}
use Rattle.board.specs.declared.goban.Board.{Board}
use Rattle.board.specs.Board.{colours_of}
use Rattle.board.specs.True.{TrueBoard}
use Rattle.board.specs.Laws.Judge.{true-or-not}
use Rattle.listing.specs.declared.list.Listed.{Listed}
use Rattle.listing.specs.Lists.{Answered}
use Rattle.drawing.specs.Laws.Picture.{length-picture, picture-fits}
use Rattle.writing.specs.Figures.{decimal, hex}

-- the bytes of the largest picture
abbrev pub max_picture : ℕ
max_picture = max_side * (3 * max_side + 1)

picture-most : {h w : ℕ} → TrueSize h w → picture_bytes h w ≤ max_picture
unfolding picture_bytes
picture-most {h} {w} size =
    let n = size.narrow in
    let row : 3 * w + 1 ≤ 3 * max_side + 1 = omega arith in
    mul-le-mul size.low row

module _ (b : Board) (before : List ℕ) (r : Listed) (after : List ℕ) (long : length before ≡ max_picture)
    (f : Answered b (picture_answer b.height b.width before) (picture b.height b.width (colours_of b)) before r after) where
  abbrev drawn : List ℕ
  drawn = picture b.height b.width (colours_of b)

  answer-none : TrueBoard b → number (picture_answer b.height b.width before) ≡ 0
  answer-none is = picture-fits b.height b.width before (let m = picture-most is.table.size in omega arith)

  accepted : TrueBoard b → accepts (picture_answer b.height b.width before) ≡ true
  accepted is = accepts-zero (picture_answer b.height b.width before) (answer-none is)

  counted : TrueBoard b → r.count ≡ length drawn
  counted is = (f.told is).counted ∙ ap (λ (t : Bool). length (cond t drawn [])) (accepted is)

  count-damaged : ¬ TrueBoard b → r.count ≡ 0
  unfolding accepts number
  count-damaged n = (f.damaged n).counted

  pub drawn-few : r.count ≤ max_picture
  drawn-few =
      ⊎_elim
      (λ is. let e = counted is in let l = length-picture b.height b.width (colours_of b) in let m = picture-most is.table.size in omega arith)
      (λ n. let e = count-damaged n in omega arith)
      (true-or-not b)

  pub drawn-refused : r.number ≢ 0 → ¬ TrueBoard b
  drawn-refused n is = n ((f.told is).answered ∙ answer-none is)

  pub drawn-damaged : ¬ TrueBoard b → decimal r.number ≡ decimal (number Damaged)
  drawn-damaged n = ap decimal (f.damaged n).answered

  pub drawn-true : r.number ≡ 0 → ¬ ¬ TrueBoard b
  unfolding number
  drawn-true e n = let z : ◌≡◌ {A = ℕ} 3 0 = sym (f.damaged n).answered ∙ e in omega arith

  pub drawn-text : TrueBoard b → hex (take r.count after) ≡ hex drawn
  unfolding filled
  drawn-text is =
      let buffer : after ≡ drawn ++ drop (length drawn) before = (f.told is).buffer ∙ ap (λ (t : Bool). cond t (drawn ++ drop (length drawn) before) before) (accepted is) in
      ap hex (ap (take r.count) buffer ∙ take_at drawn (drop (length drawn) before) r.count (sym (counted is)))
