-- The small games of 01, known by heart: one table, one statement. Every definition of the rules that a game can reach is tried here,
-- by computing, before anything is proved against it.
use Rattle.std.specs.Prelude.{◌≡◌, refl, Bool, true, false, ◌&&◌, List, [], ◌∷◌, ◌++◌, ℕ, eqb, set, replicate, Option, None, Some}
use Rattle.rules.specs.Lists.{all, below, has, same}
use Rattle.rules.specs.Colours.{black, white, other, at}
use Rattle.rules.specs.Points.{area, index, row, column, shifted, towards, sides, neighbours, corners}
use Rattle.rules.specs.Flood.{fresh, flooded, marked, chain, shores, alive, clear}
use Rattle.rules.specs.Chain.{size, liberty, liberties}
use Rattle.rules.specs.Hash.{next_entry, stone_hash, hash}
use Rattle.rules.specs.Records.{low_bytes, four_colours, record_of, capacity, stored, recorded, full, records_after, bytes_after}
use Rattle.rules.specs.Flags.{KO, SUICIDE, FILLEYE, SUPERKO, forbids}
use Rattle.rules.specs.Answers.{number, accepts, ◌then◌, refuse}
use Rattle.rules.specs.Tests.{in_atari, suicide, is_ko_point, ko, friendly, friendly_corners, two_or_three, empty_corners, eye, captures, superko}
use Rattle.rules.specs.Move.{coloured, captured, played, removed, sole_of}
use Rattle.rules.specs.Game.{Game, empty_board, fresh_game}
use Rattle.rules.specs.Calls.{Result, result, side_ok, size_answer, flags_answer, new_answer, new_game, paused, outside, off_board, taken, resulting, forbidden_answer}
use Rattle.rules.specs.Calls.{point_answer, stone_answer, one_if, stone_game, stone, pause_answer, pass_game, pass, resign_game, resign, resume_game, resume}
use Rattle.rules.specs.Calls.{Spot, choked, lay_answer, handicap_answer, handicap_game, handicapped}
use Rattle.rules.specs.Picture.{grid_sign, sign, utf8, picture}

-- ---- A game to play

pub data Call : Type 0 where
  stone_at : ℕ → ℕ → Call
  passes : Call
  resigns : ℕ → Call
  resumes : Call
  handicap_on : List Spot → Call

unfoldable pub made : Call → Game → List ℕ → Result
made (stone_at r c) g bytes = stone g bytes r c
made passes g bytes = pass g bytes
made (resigns player) g bytes = resign g bytes player
made resumes g bytes = resume g bytes
made (handicap_on spots) g bytes = handicapped g bytes spots

-- what 01 tells of a game: the number that each call answers, and at the end the board, the prisoners, the ko point, how many records,
-- and whose turn it is
pub record Told : Type 0 where
  pub numbers : List ℕ
  pub board : List ℕ
  pub white_held : ℕ
  pub black_held : ℕ
  pub ko_point : Option ℕ
  pub records : ℕ
  pub turn : ℕ

abbrev pub tell : List ℕ → Game → List ℕ → List Call → Told
tell numbers g bytes [] =
    record {
      numbers = numbers;
      board = g.colours;
      white_held = g.white_held;
      black_held = g.black_held;
      ko_point = g.ko_point;
      records = g.records;
      turn = g.turn;
    }
tell numbers g bytes (c ∷ calls) =
    let r = made c g bytes in
    tell (numbers ++ number r.answer ∷ []) r.game r.bytes calls

pub record Known : Type 0 where
  pub game : Told
  pub known : Told

-- a fresh game of this height, width, flags and number of history bytes, its calls, and what is known of it
unfoldable pub known : ℕ → ℕ → ℕ → ℕ → List Call → Told → Known
known h w flags lent calls told = record { game = tell [] (new_game h w flags) (replicate lent 0) calls; known = told }

-- ---- What is known: numbers, board, prisoners (White stones, Black stones), ko point, records, turn

unfoldable pub told : List ℕ → List ℕ → ℕ → ℕ → Option ℕ → ℕ → ℕ → Told
told numbers board whites blacks point records turn =
    record { numbers = numbers; board = board; white_held = whites; black_held = blacks; ko_point = point; records = records; turn = turn }

unfoldable pub spot : ℕ → ℕ → Spot
spot r c = record { row = r; column = c }

unfoldable pub games : List Known
games =
    -- G1 1×1 [SUICIDE]: (0,0) is 7
    known 1 1 SUICIDE 1000 (stone_at 0 0 ∷ []) (told (7 ∷ []) (0 ∷ []) 0 0 None 0 black)
    -- G2 1×1 []: (0,0) accepted; board empty, prisoners (0,1), no ko point, one record, White to move
    ∷ known 1 1 0 1000 (stone_at 0 0 ∷ []) (told (0 ∷ []) (0 ∷ []) 0 1 None 1 white)
    -- G3 1×1 [FILLEYE]: (0,0) is 9
    ∷ known 1 1 FILLEYE 1000 (stone_at 0 0 ∷ []) (told (9 ∷ []) (0 ∷ []) 0 0 None 0 black)
    -- G4 1×2 [KO]: (0,0), (0,1) accepted, prisoners (0,1), ko point (0,0); then (0,0) is 8
    ∷ known 1 2 KO 1000 (stone_at 0 0 ∷ stone_at 0 1 ∷ stone_at 0 0 ∷ []) (told (0 ∷ 0 ∷ 8 ∷ []) (0 ∷ 2 ∷ []) 0 1 (Some 0) 2 black)
    -- G5 1×2 [SUPERKO]: (0,0), (0,1), (0,0) accepted (only two records at the third); then (0,1) is 8
    ∷ known 1 2 SUPERKO 1000 (stone_at 0 0 ∷ stone_at 0 1 ∷ stone_at 0 0 ∷ stone_at 0 1 ∷ [])
    (told (0 ∷ 0 ∷ 0 ∷ 8 ∷ []) (1 ∷ 0 ∷ []) 1 1 (Some 1) 3 white)
    -- G6 1×3 [SUICIDE]: (0,0), pass, (0,2), pass, (0,1) is 7
    ∷ known 1 3 SUICIDE 1000 (stone_at 0 0 ∷ passes ∷ stone_at 0 2 ∷ passes ∷ stone_at 0 1 ∷ [])
    (told (0 ∷ 0 ∷ 0 ∷ 0 ∷ 7 ∷ []) (1 ∷ 0 ∷ 1 ∷ []) 0 0 None 2 black)
    -- G7 as G6 with []: accepted, board empty, prisoners (0,3)
    ∷ known 1 3 0 1000 (stone_at 0 0 ∷ passes ∷ stone_at 0 2 ∷ passes ∷ stone_at 0 1 ∷ [])
    (told (0 ∷ 0 ∷ 0 ∷ 0 ∷ 0 ∷ []) (0 ∷ 0 ∷ 0 ∷ []) 0 3 None 3 white)
    -- G8 1×3 [KO]: (0,0), (0,1), then (0,0) is 8
    ∷ known 1 3 KO 1000 (stone_at 0 0 ∷ stone_at 0 1 ∷ stone_at 0 0 ∷ []) (told (0 ∷ 0 ∷ 8 ∷ []) (0 ∷ 2 ∷ 0 ∷ []) 0 1 (Some 0) 2 black)
    -- G9 1×3 [KO, SUICIDE]: the same, then (0,0) is 7
    ∷ known 1 3 3 1000 (stone_at 0 0 ∷ stone_at 0 1 ∷ stone_at 0 0 ∷ []) (told (0 ∷ 0 ∷ 7 ∷ []) (0 ∷ 2 ∷ 0 ∷ []) 0 1 (Some 0) 2 black)
    -- G10 1×2: handicap on both points is 13; on (0,0) accepted, White to move
    ∷ known 1 2 0 1000 (handicap_on (spot 0 0 ∷ spot 0 1 ∷ []) ∷ handicap_on (spot 0 0 ∷ []) ∷ [])
    (told (13 ∷ 0 ∷ []) (1 ∷ 0 ∷ []) 0 0 None 0 white)
    -- G11 9×9 []: pass, pass, resign is 4; after resume Black moves
    ∷ known 9 9 0 1000 (passes ∷ passes ∷ resigns black ∷ resumes ∷ []) (told (0 ∷ 0 ∷ 4 ∷ 0 ∷ []) (replicate 81 0) 0 0 None 0 black)
    ∷ known 9 9 0 1000 (passes ∷ passes ∷ resigns black ∷ resumes ∷ stone_at 4 4 ∷ [])
    (told (0 ∷ 0 ∷ 4 ∷ 0 ∷ 0 ∷ []) (set (replicate 81 0) 40 1) 0 0 None 1 white)
    -- G12 9×9 []: (0,12) is 5. With 99 history bytes (4,4) is 11; with 100 (4,4) goes, then (4,5) is 11
    ∷ known 9 9 0 1000 (stone_at 0 12 ∷ []) (told (5 ∷ []) (replicate 81 0) 0 0 None 0 black)
    ∷ known 9 9 0 99 (stone_at 4 4 ∷ []) (told (11 ∷ []) (replicate 81 0) 0 0 None 0 black)
    ∷ known 9 9 0 100 (stone_at 4 4 ∷ stone_at 4 5 ∷ []) (told (0 ∷ 11 ∷ []) (set (replicate 81 0) 40 1) 0 0 None 1 white)
    ∷ []

-- ---- The statement: each game is what is known of it

unfoldable pub same_point : Option ℕ → Option ℕ → Bool
same_point None None = true
same_point None (Some q) = false
same_point (Some p) None = false
same_point (Some p) (Some q) = eqb p q

unfoldable pub agrees : Known → Bool
agrees k =
    same k.game.numbers k.known.numbers
    && same k.game.board k.known.board
    && eqb k.game.white_held k.known.white_held
    && eqb k.game.black_held k.known.black_held
    && same_point k.game.ko_point k.known.ko_point
    && eqb k.game.records k.known.records
    && eqb k.game.turn k.known.turn

pub games-known : all agrees games ≡ true
unfolding games same_point agrees known told spot made below has other at area index row column shifted towards sides neighbours corners fresh flooded marked chain shores alive clear size liberty liberties next_entry stone_hash hash low_bytes four_colours record_of capacity stored recorded full records_after bytes_after forbids number accepts ◌then◌ refuse in_atari suicide is_ko_point ko friendly friendly_corners two_or_three empty_corners eye captures superko coloured captured played removed sole_of empty_board fresh_game result side_ok size_answer flags_answer new_answer new_game paused outside off_board taken resulting forbidden_answer point_answer stone_answer one_if stone_game stone pause_answer pass_game pass resign_game resign resume_game resume choked lay_answer handicap_answer handicap_game handicapped
games-known = refl

-- 1×2 with Black at (0,0), drawn whole
pub picture-known : picture 1 2 (1 ∷ 0 ∷ []) ≡ 0xE2 ∷ 0x97 ∷ 0x8F ∷ 0xE2 ∷ 0x94 ∷ 0x93 ∷ 0x0A ∷ []
unfolding picture grid_sign sign utf8 at index
picture-known = refl
