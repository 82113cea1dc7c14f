-- Every definition that a call is made of, opened at once: a proof by computation says `unfolding calls`, and no list of its own.
-- Assumes nothing.
use Rattle.std.specs.Prelude.{ℕ}
use Rattle.words.specs.Bits.{with_bit, without_bit, map_of, slots_set}
use Rattle.words.specs.Spans.{over, fill, copied, up_to, same}
use Rattle.words.specs.Tests.{all, any, count, sum, lowest}
use Rattle.pages.specs.Geometry.{is_ref_at}
use Rattle.pages.specs.Images.{agrees}
use Rattle.pages.specs.Objects.{cleared, taken_slot, freed_slot, released_in, formatted_pages}
use Rattle.pages.specs.Soundness.{refs_sound, slot_zero, free_zero, page_sound, area_sound}
use Rattle.pages.specs.Table.{tabulate, rows_of, with_rows}
use Rattle.records.specs.Changes.{changes_in, changes_left, reserved}
use Rattle.records.specs.Effects.{effect, undone, undoing}
use Rattle.records.specs.Naming.{last_naming}
use Rattle.records.specs.Order.{open_in, log_sound}
use Rattle.records.specs.Recovery.{redone, undone_in, recovered, recoverable}
use Rattle.records.specs.Soundness.{word_sound, record_sound, records_sound}
use Rattle.reach.specs.Search.{last_of, found, passing, extended, followed, searched, chain_to}
use Rattle.areas.specs.Answers.{verdict}
use Rattle.areas.specs.Areas.{appended}
use Rattle.areas.specs.Entry.{well_formed, called}
use Rattle.areas.specs.Ranges.{lengths_fit, rows_in_range, work_in_range, counts_in_range, in_range}
use Rattle.areas.specs.Tables.{greyed}
use Rattle.calls.specs.Calls.{perform}
use Rattle.calls.specs.Chains.{chain_tests, chain_look, call_chain, chain_after}
use Rattle.calls.specs.Formatting.{formatted, format_tests, call_format, cut}
use Rattle.calls.specs.Locks.{holder_of, lock_read_tests, read_locked, call_lock_read, lock_write_tests, write_locked, call_lock_write}
use Rattle.calls.specs.Looks.{call_look}
use Rattle.calls.specs.Marks.{others_set, set_last, mark_tests, mark_set, call_mark, back_tests, taken_back, went_back, dropped, back_to, call_back}
use Rattle.calls.specs.Objects.{read_tests, learned, call_read, buffer_after, create_tests, created, call_create, set_tests, pruned, word_set, call_set, flush_tests, flushed, call_flush}
use Rattle.calls.specs.Pass.{pass_tests, unflagged, pass_started, call_pass, lowest_grey, targets_greyed, scanned, marked, sweep_map, freed_map, advanced, sweep_tests, swept_page, swept, step_tests, call_step}
use Rattle.calls.specs.PassShares.{pass_share_tests, pass_share_look, call_pass_share, pass_share_after}
use Rattle.calls.specs.Reopening.{reopen_tests, reopened, call_reopen, restep_tests, page_stored, reopening_over, call_restep}
use Rattle.calls.specs.Room.{room_beyond}
use Rattle.calls.specs.Stability.{force_tests, call_force, store_tests, call_store, empty_tests, call_empty}
use Rattle.calls.specs.Rights.{may_lock, has_active, grant_tests, right_given, call_grant}
use Rattle.calls.specs.Transactions.{begin_tests, begun_tables, begun, call_begin, without_marks, ended_tables, all_flushed, commit_tests, committed, call_commit, rolled_back, restored, abort_tests, aborted, call_abort}

-- what its line names opens with it; its value is of no use
unfoldable pub calls : ℕ
unfolding with_bit without_bit map_of slots_set over fill copied up_to same all any count sum lowest is_ref_at agrees cleared taken_slot freed_slot released_in formatted_pages refs_sound slot_zero free_zero page_sound area_sound tabulate rows_of with_rows changes_in changes_left reserved effect undone undoing last_naming open_in log_sound redone undone_in recovered recoverable word_sound record_sound records_sound last_of found passing extended followed searched chain_to verdict appended well_formed called lengths_fit rows_in_range work_in_range counts_in_range in_range greyed perform chain_tests chain_look call_chain chain_after formatted format_tests call_format cut may_lock has_active grant_tests right_given call_grant holder_of lock_read_tests read_locked call_lock_read lock_write_tests write_locked call_lock_write call_look others_set set_last mark_tests mark_set call_mark back_tests taken_back went_back dropped back_to call_back read_tests learned call_read buffer_after create_tests created call_create set_tests pruned word_set call_set flush_tests flushed call_flush pass_tests unflagged pass_started call_pass lowest_grey targets_greyed scanned marked sweep_map freed_map advanced sweep_tests swept_page swept step_tests call_step pass_share_tests pass_share_look call_pass_share pass_share_after reopen_tests reopened call_reopen restep_tests page_stored reopening_over call_restep room_beyond force_tests call_force store_tests call_store empty_tests call_empty begin_tests begun_tables begun call_begin without_marks ended_tables all_flushed commit_tests committed call_commit rolled_back restored abort_tests aborted call_abort
calls = 0
