-- Document 02, L1: which chain of references is shown, and what the call answers, in a table proved by a single statement over it.
-- Assumes nothing.
use Rattle.std.specs.Prelude.{ℕ, ◌-◌, ◌≡◌, refl, Bool, true, ◌&&◌, List, [], ◌∷◌, ◌++◌, length, replicate, eqb}
use Rattle.pages.specs.Objects.{written}
use Rattle.reach.specs.Search.{chain_in}
use Rattle.areas.specs.Answers.{answer_of, value_of}
use Rattle.areas.specs.Areas.{Areas}
use Rattle.calls.specs.Formatting.{formatted}
use Rattle.calls.specs.Calls.{Call, begin, lock_write, create, set_word, flush, reopen}
use Rattle.calls.specs.Chains.{call_chain, chain_after}
use Rattle.computing.specs.Calls.{calls}
use Rattle.computing.specs.Stores.{same_words, same_areas, after, allowed}

-- word f of object o names x
pub data Reference : Type 0 where
  names : ℕ → ℕ → ℕ → Reference

-- one page, its slots all occupied, with these references
unfoldable pub page : List Reference → List ℕ
page [] = 65535 ∷ replicate 128 0
page (names o f x ∷ l) = written (page l) o f x

-- a row: a page's references, an object and its chain; or a store, the calls before, which must all be accepted, and a call for an object:
-- it shows this chain, or is refused with this number, its buffer being this one
pub data Row : Type 0 where
  chain : List Reference → ℕ → List ℕ → Row
  shows : Areas → List Call → ℕ → List ℕ → Row
  refusal : ℕ → Areas → List Call → ℕ → List ℕ → Row

-- a buffer that holds something
abbrev pub used : List ℕ
used = replicate 4096 7

-- the answer, the value and the buffer are so, and every word of the store stays
unfoldable pub answers : ℕ → ℕ → List ℕ → Areas → ℕ → List ℕ → Bool
answers x v b s o buffer =
    let r = call_chain s buffer o in
    eqb (answer_of r.answer) x && eqb (value_of r.answer) v && same_areas r.after s && same_words (chain_after s buffer o) b

-- a row of the table is right
unfoldable pub right : Row → Bool
right (chain l o c) = same_words (chain_in (page l) 1 o) c
right (shows s bs o c) = after bs (λ a. answers 0 (length c) (c ++ replicate (4096 - length c) 0) a o used) s
right (refusal x s bs o buffer) = after bs (λ a. answers x 0 buffer a o buffer) s

-- all rows are
unfoldable pub all_right : List Row → Bool
all_right [] = true
all_right (r ∷ rs) = let on = all_right rs in right r && on

-- a new object 17, named by the root: both in received pages only
abbrev pub linked : List Call
linked = begin 0 0 ∷ lock_write 0 0 ∷ lock_write 0 1 ∷ create 0 17 ∷ set_word 0 1 0 17 ∷ []

-- the flush of the root's page
abbrev pub root_flushed : Call
root_flushed = flush 0 0 (1 ∷ 17 ∷ replicate 127 0)

-- the flush of the object's page
abbrev pub object_flushed : Call
object_flushed = flush 0 1 (1 ∷ replicate 128 0)

pub table : List Row
table =
    chain (names 1 0 4 ∷ names 1 1 3 ∷ names 3 0 2 ∷ names 4 0 2 ∷ []) 2 (1 ∷ 3 ∷ 2 ∷ [])
    ∷ chain (names 1 0 3 ∷ names 1 1 2 ∷ names 2 0 5 ∷ names 3 0 4 ∷ names 4 0 6 ∷ names 5 0 6 ∷ []) 6 (1 ∷ 2 ∷ 5 ∷ 6 ∷ [])
    ∷ chain (names 1 0 2 ∷ names 1 1 16 ∷ names 2 0 3 ∷ names 3 0 4 ∷ names 16 0 4 ∷ []) 4 (1 ∷ 16 ∷ 4 ∷ [])
    ∷ chain (names 5 0 6 ∷ names 6 0 5 ∷ []) 5 []
    ∷ chain (names 1 0 1 ∷ []) 1 (1 ∷ [])
    ∷ shows (formatted 1 8) [] 1 (1 ∷ [])
    ∷ refusal 15 (formatted 1 8) [] 2 used
    ∷ refusal 3 (formatted 1 8) [] 0 used
    ∷ refusal 3 (formatted 1 8) [] 17 used
    ∷ refusal 1 (formatted 1 8) [] 1 (replicate 8 7)
    ∷ refusal 2 (formatted 1 8) (reopen ∷ []) 0 used
    ∷ refusal 1 (formatted 1 8) (reopen ∷ []) 0 (replicate 8 7)
    ∷ refusal 15 (allowed 2 16) linked 17 used
    ∷ refusal 15 (allowed 2 16) (linked ++ (root_flushed ∷ [])) 17 used
    ∷ shows (allowed 2 16) (linked ++ (root_flushed ∷ object_flushed ∷ [])) 17 (1 ∷ 17 ∷ [])
    ∷ []

pub chains_right : all_right table ≡ true
unfolding all_right right answers page table same_words same_areas after calls
chains_right = refl
