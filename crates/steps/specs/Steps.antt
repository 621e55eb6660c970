-- The steps of laying a stone, as functions on the board that do what the code does: put a stone as a chain of its own, join two chains,
-- remove a chain. That they keep the table exact is in the laws.
use Rattle.std.specs.Prelude.{cond, List, [], ◌∷◌, ℕ, ◌+◌, eqb, ltb, get_or, set}
use Rattle.std.specs.Int.Bits.{bit_xor}
use Rattle.rules.specs.Sizes.{slots}
use Rattle.rules.specs.Points.{neighbours}
use Rattle.rules.specs.Hash.{stone_hash}
use Rattle.chains.specs.declared.group.Chain.{Chain}
use Rattle.chains.specs.Group.{free_chain, new_chain}
use Rattle.sets.specs.Liberties as sets
use Rattle.chains.specs.Walk.{walked}
use Rattle.board.specs.declared.goban.Board.{Board}
use Rattle.board.specs.Board.{owner, chain_in}

-- ---- One chain of the table

-- the chain without the liberty p, and with it
unfoldable pub loses : ℕ → Chain → Chain
loses p c =
    record { liberties = sets.removed c.liberties p; colour = c.colour; origin = c.origin; last = c.last; count = c.count }

unfoldable pub gains : ℕ → Chain → Chain
gains p c =
    record { liberties = sets.added c.liberties p; colour = c.colour; origin = c.origin; last = c.last; count = c.count }

-- the table with the chain in slot s changed; no chain is never changed
unfoldable pub in_slot : (Chain → Chain) → ℕ → List Chain → List Chain
in_slot f s cs = set cs s (f (get_or cs s free_chain))

-- ---- Put a stone: a chain of its own in the free slot s, whose liberties are the empty points beside it; every chain beside it loses
-- that liberty

-- the chains that own the points of the list lose the liberty p
abbrev pub losing : (ℕ → ℕ) → ℕ → List ℕ → List Chain → List Chain
losing own p [] cs = cs
losing own p (q ∷ qs) cs = losing own p qs (in_slot (loses p) (own q) cs)

-- the points of the list that no chain owns are added to the set
abbrev pub openings : (ℕ → ℕ) → List ℕ → List ℕ → List ℕ
openings own [] libs = libs
openings own (q ∷ qs) libs = openings own qs (cond (eqb (own q) slots) (sets.added libs q) libs)

unfoldable pub put : Board → ℕ → ℕ → ℕ → Board
put b p c s =
    let beside = neighbours b.height b.width p in
    record {
      height = b.height;
      width = b.width;
      hash = bit_xor b.hash (stone_hash p c);
      owners = set b.owners p s;
      next = set b.next p p;
      chains = set (losing (owner b) p beside b.chains) s (new_chain c p (openings (owner b) beside sets.none));
    }

-- ---- Join two chains: the stones of the chain in slot f go over to the slot t, and f is free

-- the slot s owns the points of the list
abbrev pub owning : ℕ → List ℕ → List ℕ → List ℕ
owning s [] owners = owners
owning s (p ∷ ps) owners = owning s ps (set owners p s)

-- two chains as one: the lesser origin leads, and the other's stones come after it
unfoldable pub united : Chain → Chain → Chain
united a b =
    record {
      liberties = sets.united a.liberties b.liberties;
      colour = a.colour;
      origin = cond (ltb a.origin b.origin) a.origin b.origin;
      last = cond (ltb a.origin b.origin) b.last a.last;
      count = a.count + b.count;
    }

unfoldable pub join : Board → ℕ → ℕ → Board
join b t f =
    let a = chain_in b t in
    let c = chain_in b f in
    record {
      height = b.height;
      width = b.width;
      hash = b.hash;
      owners = owning t (walked b.next c.origin c.count) b.owners;
      next = set (set b.next a.last c.origin) c.last a.origin;
      chains = set (set b.chains f free_chain) t (united a c);
    }

-- ---- Remove a chain: its points are owned by none, and each is a liberty of the chains beside it

-- the chains that own the points of the list gain the liberty p, but for the slot s itself
abbrev pub gaining : (ℕ → ℕ) → ℕ → ℕ → List ℕ → List Chain → List Chain
gaining own s p [] cs = cs
gaining own s p (q ∷ qs) cs = gaining own s p qs (cond (eqb (own q) s) cs (in_slot (gains p) (own q) cs))

abbrev pub gaining_all : (ℕ → ℕ) → (ℕ → List ℕ) → ℕ → List ℕ → List Chain → List Chain
gaining_all own beside s [] cs = cs
gaining_all own beside s (p ∷ ps) cs = gaining_all own beside s ps (gaining own s p (beside p) cs)

-- the hash without stones of colour c on the points of the list
abbrev pub unhashed : ℕ → List ℕ → ℕ → ℕ
unhashed c [] x = x
unhashed c (p ∷ ps) x = unhashed c ps (bit_xor x (stone_hash p c))

unfoldable pub remove : Board → ℕ → Board
remove b s =
    let c = chain_in b s in
    let stones = walked b.next c.origin c.count in
    record {
      height = b.height;
      width = b.width;
      hash = unhashed c.colour stones b.hash;
      owners = owning slots stones b.owners;
      next = b.next;
      chains = set (gaining_all (owner b) (neighbours b.height b.width) s stones b.chains) s free_chain;
    }
