-- Laws of Does: what was done of what was read is what the line means, at the numbers that it writes.
use Rattle.std.specs.Prelude.{◌≡◌, refl, cond, List, [], ◌∷◌, ◌++◌, map, ℕ, ◌+◌, ◌*◌, ◌/◌, ◌%◌, ◌≤◌, take, drop}
use Rattle.std.proofs.Math.Path.{ap}
use Rattle.std.proofs.Common.{ap₂, ◌∙◌, ⊎_elim, length-append, take_at, le-leb}
use native.Mathlib.Omega.{arith}
use Rattle.std.proofs.Math.ListN.{length}
use Rattle.std.proofs.lemmas.List.{length-map}
use Rattle.rules.specs.Answers.{Answer, number, accepts}
use Rattle.rules.specs.Game as games
use Rattle.rules.specs.Calls as rules
use Rattle.rules.proofs.Laws.Lists.{decided}
use Rattle.placing.specs.Placing.{spots_of}
use Rattle.game.specs.declared.state.Game.{Game}
use Rattle.game.specs.View.{view_of, TrueState}
use Rattle.game.specs.Promise.{Made, CalledAlone, Called}
use Rattle.spelling.specs.Number.{byte_of}
use Rattle.lines.specs.Command.{Command, meaning}
use Rattle.lines.specs.Command as commands
use Rattle.lines.specs.Reads.{packed, told, laid, laid_over}
use Rattle.reading.specs.Laws.Line.{echo-short}
use Rattle.reading.specs.Laws.Few.{spots_in, max_spots}
use Rattle.reading.specs.Laws.Capped.{new-capped, new-game-capped, check-capped, stone-capped, capped, handicap-capped, flags-capped, flags-same}
use Rattle.writing.specs.Figures.{decimal}
use Rattle.wording.specs.Replies.{points}
use Rattle.telling.specs.Reply.{Reply, TrueDesk, Calls}
use Rattle.acting.specs.Reply.{listed}
use Rattle.answering.specs.Does.{Does}
use Rattle.acting.specs.Acts.{Acts, Ready}

-- ---- The same call

-- what a call does of a true state is all that its promise names
alone-same : {call call' : rules.Result} {g g' : Game} {n : ℕ} → (TrueState g → call ≡ call') → CalledAlone call g n g' → CalledAlone call' g n g'
alone-same e c =
    record {
      damaged = c.damaged;
      answered = λ is. c.answered is ∙ ap (λ (x : rules.Result). number x.answer) (e is);
      shown = λ is. c.shown is ∙ ap (λ (x : rules.Result). x.game) (e is);
      kept = c.kept;
      refused = c.refused;
    }

called_same : {is : Type 0} {call call' : rules.Result} {g g' : Game} {bytes bytes' : List ℕ} {n : ℕ} → (is → call ≡ call') → Called is call g bytes n g' bytes' → Called is call' g bytes n g' bytes'
called_same e c =
    record {
      damaged = c.damaged;
      answered = λ t. c.answered t ∙ ap (λ (x : rules.Result). number x.answer) (e t);
      shown = λ t. c.shown t ∙ ap (λ (x : rules.Result). x.game) (e t);
      lent = λ t. c.lent t ∙ ap (λ (x : rules.Result). x.bytes) (e t);
      kept = c.kept;
      refused = c.refused;
    }

made-same : {h w flags n : ℕ} {g' : Game} → Made (byte_of h) (byte_of w) (byte_of flags) n g' → Made h w flags n g'
made-same {h} {w} {flags} m =
    record {
      answered = m.answered ∙ ap number (new-capped h w flags);
      shown = m.shown ∙ new-game-capped h w flags;
      kept = m.kept;
    }

-- ---- Spots

-- a spot in one number is two bytes
packed-spot : (s : rules.Spot) → ◌≡◌ {A = rules.Spot} (record { row = packed s / 256; column = packed s % 256 }) (capped s)
unfolding packed byte_of
packed-spot s i =
    record {
      row = (let e : (256 * byte_of s.row + byte_of s.column) / 256 ≡ byte_of s.row = omega arith in e) i;
      column = (let e : (256 * byte_of s.row + byte_of s.column) % 256 ≡ byte_of s.column = omega arith in e) i;
    }

packed-spots : (spots : List rules.Spot) → spots_of (map packed spots) ≡ map capped spots
packed-spots [] = refl
packed-spots (s ∷ spots) = ap₂ {C = List rules.Spot} (λ (x : rules.Spot) (l : List rules.Spot). x ∷ l) (packed-spot s) (packed-spots spots)

module _ (before : List ℕ) (long : length before ≡ max_spots) (spots : List rules.Spot) (few : length spots ≤ max_spots) where
  buffer-laid : laid_over before spots ≡ map packed spots ++ drop (length spots) before
  unfolding laid_over
  buffer-laid = let l : length spots ≤ length before = omega arith in rw (le-leb (length spots) (length before) l)

  spots-laid : spots_of (take (length spots) (laid_over before spots)) ≡ map capped spots
  spots-laid =
      ap spots_of (ap (take (length spots)) buffer-laid ∙ take_at (map packed spots) (drop (length spots) before) (length spots) (length-map spots packed))
      ∙ packed-spots spots

  spots-within : length spots ≤ length (laid_over before spots)
  spots-within = rw buffer-laid (omega (arith, length-append (map packed spots) (drop (length spots) before), length-map spots packed))

-- ---- Lists

listed_same : (g : games.Game) (bytes : List ℕ) (flags : ℕ)
    → listed (rules.flags_answer (byte_of flags)) (rules.legals g bytes (byte_of flags)) ≡ listed (rules.flags_answer flags) (rules.legals g bytes flags)
unfolding listed
listed_same g bytes flags =
    ap (λ (a : Answer). cond (accepts a) (points (rules.legals g bytes (byte_of flags))) (decimal (number a))) (flags-capped flags)
    ∙ ⊎_elim (λ t. ap (λ (f : ℕ). cond (accepts (rules.flags_answer flags)) (points (rules.legals g bytes f)) (decimal (number (rules.flags_answer flags)))) (flags-same flags t))
    (λ t. rw t)
    (decided (accepts (rules.flags_answer flags)))

-- ---- What was read, and what the line means

module _ (line before : List ℕ) (long : length before ≡ max_spots) where
  pub ready-told : (c : Command) → meaning line ≡ c → spots_in c ≤ max_spots → Ready line (laid before c) (told max_spots c)
  ready-told commands.Echo e few = echo-short line e
  ready-told (commands.New h w flags lent) e few = tt
  ready-told (commands.Handicap spots) e few = rw (le-leb (length spots) max_spots few) (spots-within before long spots few)
  ready-told (commands.Stone r c) e few = tt
  ready-told commands.Pass e few = tt
  ready-told (commands.Resign player) e few = tt
  ready-told commands.Resume e few = tt
  ready-told (commands.Check r c flags) e few = tt
  ready-told (commands.Legals flags) e few = tt
  ready-told commands.State e few = tt
  ready-told commands.Render e few = tt
  ready-told (commands.Wrong wrong) e few = tt

  module _ (g : Game) (bytes : List ℕ) (a : Reply) where
    handicap-does : (spots : List rules.Spot) → length spots ≤ max_spots
        → Calls (rules.handicapped (view_of g) [] (spots_of (take (length spots) (laid_over before spots)))) g bytes a → Calls (rules.handicapped (view_of g) [] spots) g bytes a
    handicap-does spots few d =
        record {
          number = d.number;
          said = d.said;
          called =
              alone-same (λ is. ap (rules.handicapped (view_of g) []) (spots-laid before long spots few) ∙ handicap-capped (view_of g) is.game.size spots []) d.called;
          lent = d.lent;
          kept = d.kept;
        }

    pub does-told : (c : Command) → spots_in c ≤ max_spots → Acts line (laid before c) g (told max_spots c) bytes a → Does line g bytes a c
    unfolding view_of TrueDesk
    does-told commands.Echo few d = d
    does-told (commands.New h w flags lent) few d = record { number = d.number; said = d.said; made = made-same d.made; lends = d.lends; kept = d.kept }
    does-told (commands.Handicap spots) few d = handicap-does spots few (rw (le-leb (length spots) max_spots few) at d)
    does-told (commands.Stone r c) few d =
        record { number = d.number; said = d.said; called = called_same (λ is. stone-capped (view_of g) bytes is.0.game.size r c) d.called; lent = d.lent }
    does-told commands.Pass few d = d
    does-told (commands.Resign player) few d = d
    does-told commands.Resume few d = d
    does-told (commands.Check r c flags) few d =
        record {
          number = d.number;
          said = d.said;
          checked =
              record {
                damaged = d.checked.damaged;
                answered = λ is. d.checked.answered is ∙ ap number (check-capped (view_of g) bytes is.0.game.size flags r c);
              };
          stays = d.stays;
        }
    does-told (commands.Legals flags) few d = record { told = λ is. d.told is ∙ listed_same (view_of g) bytes flags; damaged = d.damaged; stays = d.stays }
    does-told commands.State few d = d
    does-told commands.Render few d = d
    does-told (commands.Wrong wrong) few d = d
