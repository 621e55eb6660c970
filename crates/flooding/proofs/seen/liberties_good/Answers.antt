use mathlib.Core.Path.{◌≡◌, sym, ◌∙◌}
use Prim.Native.Nat.{ℕ, ◌<◌, ◌^◌}
use native.Mathlib.Omega.{arith}
use lib.ListN.{get_or}
use mir.Syntax.{w8, w64}
use mir.Val.{Fits}
use Rattle.sets.specs.Liberties.{LibertySet}
use Rattle.flooding.specs.Flood.{seen_words}
use Rattle.flooding.specs.Laws.Seen.{compared-none, compared-next, word-differs, words-decide}
use borrow.Author.Rules.{rules}
use Rattle.flooding.proofs.seen.liberties_good.Goals.{Start}
use Rattle.flooding.proofs.seen.liberties_good.Goals as goal

-- the array that came in is a liberty set
came : (c : Start) → LibertySet c.args.kept
came c = record { long = search rules; bytes = λ k. let f : Fits w8 (get_or c.args.kept k 0) = search rules in f.fits }

small : (c : Start) (i : ℕ) → get_or c.args.seen i 0 < 2 ^ 64
small c i = let f : Fits w64 (get_or c.args.seen i 0) = search rules in f.fits

pub loop-i-init : goal.loop-i-init
loop-i-init c = compared-none _ _

pub returns-then-seen-i : goal.returns-then-seen-i
returns-then-seen-i c =
    word-differs c.args.kept c.args.seen (came (goal.at.returns-then-seen-i c).Start) (small (goal.at.returns-then-seen-i c).Start) c.requires c.loop-i.i (λ e. c.if-seen-i.true (e ∙ sym c.word.ensures))

pub loop-i-preserved : goal.loop-i-preserved
loop-i-preserved c =
    compared-next c.args.kept c.args.seen c.loop-i.invariant (c.if-seen-i.false ∙ c.word.ensures)

pub returns : goal.returns
returns c =
    let past : c.loop-i.i ≡ seen_words = omega arith in
    words-decide c.args.kept c.args.seen (came (goal.at.returns c).Start) (small (goal.at.returns c).Start) c.requires (rw past at c.loop-i.invariant)
