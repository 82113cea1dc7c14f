-- The state of the collector's machine: pages, tags, locks, tables and the pass. This machine serves the proof of demand 3; the
-- claim of demand 3 itself never mentions it. Assumes nothing.
use Rattle.std.specs.Prelude.{ℕ, suc, ◌*◌, Bool, true, false, not, cond, eqb}
use Rattle.collector.specs.Bits.{◌and◌, ◌or◌, anyb, countb}
use Rattle.collector.specs.Objects.{Obj, Tag, blank, fresh, born_at, txns}

pub data Colour : Type 0 where
  white grey black : Colour

abbrev pub is_white : Colour → Bool
is_white white = true
is_white grey = false
is_white black = false

abbrev pub is_grey : Colour → Bool
is_grey white = false
is_grey grey = true
is_grey black = false

abbrev pub is_black : Colour → Bool
is_black white = false
is_black grey = false
is_black black = true

abbrev pub white_to_grey : Colour → Colour
white_to_grey white = grey
white_to_grey grey = grey
white_to_grey black = black

-- where the test holds, white turns grey
unfoldable pub greyed : Bool → Colour → Colour
greyed b c = cond b (white_to_grey c) c

pub data Phase : Type 0 where
  idle marking sweeping : Phase

abbrev pub is_idle : Phase → Bool
is_idle idle = true
is_idle marking = false
is_idle sweeping = false

abbrev pub is_marking : Phase → Bool
is_marking idle = false
is_marking marking = true
is_marking sweeping = false

abbrev pub is_sweeping : Phase → Bool
is_sweeping idle = false
is_sweeping marking = false
is_sweeping sweeping = true

-- committed, received and copied objects
pub record Pages : Type 0 where
  pub cmt : ℕ → Obj
  pub rec : ℕ → Obj
  pub cop : ℕ → Obj

-- tags of the committed and of the received objects; now bounds the lines so far. Copies have no history.
pub record Tags : Type 0 where
  pub cmt_tag : ℕ → Tag
  pub rec_tag : ℕ → Tag
  pub now : ℕ

-- active transactions; read and write locks by transaction and page
pub record Locks : Type 0 where
  pub act : ℕ → Bool
  pub rd : ℕ → ℕ → Bool
  pub wr : ℕ → ℕ → Bool

-- by transaction and object: known objects, PRT, COT; flagged COT entries by object; pages not flushed by transaction and page.
-- Flagged PRT entries are left out: nothing reads them.
pub record Tables : Type 0 where
  pub kn : ℕ → ℕ → Bool
  pub prt : ℕ → ℕ → Bool
  pub cot : ℕ → ℕ → Bool
  pub cot_f : ℕ → Bool
  pub dirty : ℕ → ℕ → Bool

-- at is the page to sweep, steps the steps since the start
pub record Pass : Type 0 where
  pub phase : Phase
  pub at : ℕ
  pub steps : ℕ
  pub col : ℕ → Colour

pub record St : Type 0 where
  pub count : ℕ
  pub pages : Pages
  pub tags : Tags
  pub locks : Locks
  pub tables : Tables
  pub pass : Pass

-- objects are numbered from 1 to
abbrev pub objects : St → ℕ
objects s = 16 * s.count

-- tables of bits: with one entry more, with one less, without a transaction's entries
abbrev pub add : (ℕ → ℕ → Bool) → ℕ → ℕ → ℕ → ℕ → Bool
add tab t x u y = tab u y or (eqb u t and eqb y x)

abbrev pub remove : (ℕ → ℕ → Bool) → ℕ → ℕ → ℕ → ℕ → Bool
remove tab t x u y = not (eqb u t and eqb y x) and tab u y

abbrev pub drop : (ℕ → ℕ → Bool) → ℕ → ℕ → ℕ → Bool
drop tab t u y = not (eqb u t) and tab u y

-- some transaction has an entry for x
abbrev pub some : (ℕ → ℕ → Bool) → ℕ → Bool
some tab x = anyb txns (λ t. tab t x)

-- a COT entry, flagged or not
abbrev pub carried : (ℕ → ℕ → Bool) → (ℕ → Bool) → ℕ → Bool
carried cot cot_f x = some cot x or cot_f x

-- what A has where the test holds, what B has elsewhere
abbrev pub mix : {A : Type 0} → (ℕ → Bool) → (ℕ → A) → (ℕ → A) → ℕ → A
mix q a b o = cond (q o) (a o) (b o)

abbrev pub holds : (ℕ → ℕ → Bool) → (ℕ → ℕ → Bool) → ℕ → ℕ → Bool
holds wr rd t p = wr t p or rd t p

-- the black ones of objects 1 to n
abbrev pub blacks : ℕ → (ℕ → Colour) → ℕ
blacks n col = countb n (λ k. is_black (col (suc k)))

-- the objects m with tags a in all areas, and nobody at work
abbrev pub at_rest : ℕ → (ℕ → Obj) → (ℕ → Tag) → ℕ → St
at_rest p m a n = record {
  count = p;
  pages = record { cmt = m; rec = m; cop = m };
  tags = record { cmt_tag = a; rec_tag = a; now = n };
  locks = record { act = λ t. false; rd = λ t q. false; wr = λ t q. false };
  tables = record { kn = λ t o. false; prt = λ t o. false; cot = λ t o. false; cot_f = λ o. false; dirty = λ t q. false };
  pass = record { phase = idle; at = 0; steps = 0; col = λ o. white };
}

unfoldable pub formatted : ℕ → St
formatted p = at_rest p (λ o. cond (eqb o 1) fresh blank) (λ o. born_at 0) 0
