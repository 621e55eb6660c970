-- All stones of the chain, or none, by its colour; they are few by the type of the count.
use native.Mathlib.Omega.{arith}
use borrow.Author.Tests.{eq-eqb, ne_eqb}
use mir.Val.{Fits}
use mir.Syntax.{w16}
use borrow.Author.Rules.{rules}
use Rattle.board.proofs.judge.stones_in.Goals as goal

pub returns-then-chain-colour : goal.returns-then-chain-colour
returns-then-chain-colour c =
    let f : Fits w16 c.args.chain.count = search rules in
    record { counted = rw (eq-eqb _ _ c.if-chain-colour.true); few = omega (arith, f.fits) }

pub returns : goal.returns
returns c = record { counted = rw (ne_eqb _ _ c.if-chain-colour.false); few = omega arith }
