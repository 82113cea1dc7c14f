-- Document 01, 'Agreement': 'The fourteen examples of the refusal table, each on the bench store unless it says otherwise and after the begins
-- and locks it needs, and the bench input stand in a table proved by a single statement over it'; and one of document 02's L2.
-- Assumes nothing.
use Rattle.std.specs.Prelude.{ℕ, ◌≡◌, refl, Bool, true, ◌&&◌, List, [], ◌∷◌, set, take, replicate}
use Rattle.areas.specs.Areas.{Areas, areas}
use Rattle.calls.specs.Objects.{buffer_after}
use Rattle.calls.specs.Calls.{Call, begin, commit, lock_write, read, create, set_word, flush, store, empty, reopen}
use Rattle.texts.specs.Text.{bytes}
use Rattle.bench_run.specs.Bench.{bench_store, bench_output, all_given, rights_again}
use Rattle.computing.specs.Calls.{calls}
use Rattle.computing.specs.Stores.{same_words, same_areas, refused_by, after, allowed}
use Rattle.texts.specs.Same.{same as same_texts}
use Rattle.texts.specs.Lines.{lines_of}
use Rattle.texts.specs.Fields.{fields_of}
use Rattle.decimals.specs.Numbers.{digits_from, number_in}
use Rattle.decimals.specs.Decimal.{digits_in, decimal}
use Rattle.bench_names.specs.Names.{call_alone, call_one, call_two, call_four}
use Rattle.bench_commands.specs.Commands.{numbers_from, command_of}
use Rattle.bench_output.specs.Output.{output_line}
use Rattle.bench_run.specs.Bench.{page_sent, transaction_call, lock_call, object_call, stability_call, pass_call, reopening_call, bench_call, output_from}

-- a row: a store, the calls before, which must all be accepted, and a call that is refused with this number, or with 6 and this holder; a
-- refused read, with its transaction, its object and its buffer; or an input and its output
pub data Row : Type 0 where
  refusal : ℕ → Areas → List Call → Call → Row
  barred : ℕ → Areas → List Call → Call → Row
  refused_read : ℕ → Areas → List Call → ℕ → ℕ → List ℕ → Row
  bench : List ℕ → List ℕ → Row

-- 'every buffer keeps its bytes': a read's too
unfoldable pub read_refused_by : ℕ → Areas → ℕ → ℕ → List ℕ → Bool
read_refused_by x s t o buffer = refused_by x 0 s (read t o buffer) && same_words (buffer_after s t o buffer) buffer

-- a row of the table is right
unfoldable pub right : Row → Bool
right (refusal x s bs c) = after bs (λ a. refused_by x 0 a c) s
right (barred h s bs c) = after bs (λ a. refused_by 6 h a c) s
right (refused_read x s bs t o buffer) = after bs (λ a. read_refused_by x a t o buffer) s
right (bench input output) = same_words (bench_output input) output

-- all rows are
unfoldable pub all_right : List Row → Bool
all_right [] = true
all_right (r ∷ rs) = let on = all_right rs in right r && on

-- the received page 0 of the bench's store, and one with a word changed
abbrev pub image : List ℕ
image = 1 ∷ replicate 128 0

-- a store whose log has one stable record, of kind 8
abbrev pub kind_eight : Areas
kind_eight = areas bench_store.stored bench_store.copies bench_store.received (set bench_store.log 0 8) (1 ∷ 1 ∷ []) bench_store.work

pub table : List Row
table =
    refusal 1 bench_store (begin 0 0 ∷ lock_write 0 0 ∷ []) (flush 0 0 (take 128 image))
    ∷ refusal 2 bench_store (reopen ∷ []) (begin 0 0)
    ∷ refusal 3 bench_store [] (begin 16 0)
    ∷ refusal 4 bench_store [] (commit 3)
    ∷ refused_read 5 bench_store (begin 0 0 ∷ []) 0 1 (replicate 8 7)
    ∷ refusal 6 bench_store (begin 0 0 ∷ begin 1 0 ∷ lock_write 0 0 ∷ []) (lock_write 1 0)
    ∷ barred 1 bench_store (begin 0 0 ∷ begin 1 0 ∷ lock_write 1 0 ∷ []) (lock_write 0 0)
    ∷ refusal 7 bench_store (begin 0 0 ∷ lock_write 0 0 ∷ []) (set_word 0 1 0 9)
    ∷ refusal 8 bench_store (begin 0 0 ∷ lock_write 0 0 ∷ []) (create 0 1)
    ∷ refusal 9 bench_store (begin 0 0 ∷ lock_write 0 0 ∷ []) (flush 0 0 (set image 5 7))
    ∷ refusal 10 bench_store (begin 0 0 ∷ lock_write 0 0 ∷ set_word 0 1 4 7 ∷ []) (commit 0)
    ∷ refusal 11 (allowed 4 3) (begin 0 0 ∷ lock_write 0 0 ∷ []) (create 0 2)
    ∷ refusal 12 bench_store (begin 0 0 ∷ lock_write 0 0 ∷ create 0 2 ∷ []) (store 0)
    ∷ refusal 13 bench_store (begin 0 0 ∷ []) empty
    ∷ refusal 14 kind_eight [] reopen
    ∷ bench
    (bytes "begin,0\r\nlockw,0,0\r\ncreate,0,2\r\nset,0,1,0,2\r\nflush,0,0\r\ncommit,0\r\nbegin,1\r\nlockw,1,0\r\nset,1,1,0,0\r\nflush,1,0\r\ncommit,1\r\npass\r\nstep\r\nstep\r\nstep\r\n")
    (bytes "1,0,1\r\n2,0,0\r\n3,0,2\r\n4,0,3\r\n5,0,0\r\n6,0,4\r\n7,0,5\r\n8,0,0\r\n9,0,6\r\n10,0,0\r\n11,0,7\r\n12,0,0\r\n13,0,1\r\n14,0,0\r\n15,0,1\r\n")
    ∷ []

pub table_right : all_right table ≡ true
unfolding all_right right table same_words same_areas refused_by read_refused_by after calls same_texts fields_of numbers_from call_alone call_one call_two call_four command_of lines_of digits_from number_in digits_in decimal output_line page_sent all_given rights_again transaction_call lock_call object_call stability_call pass_call reopening_call bench_call output_from bench_output
table_right = refl
