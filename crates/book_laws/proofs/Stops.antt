-- What a cut or a reopening leaves of the lines counts as the stable lines did. Assumes nothing.
use Prim.Native.Nat.{ℕ, ◌-◌}
use mathlib.Core.Path.{◌≡◌, refl, sym, ◌∙◌}
use mathlib.Core.Bool.{Bool, true, not, ◌&&◌, ◌||◌}
use mathlib.Core.List.{List, [], ◌∷◌}
use mathlib.Core.Logic.{inl, inr}
use lib.ListN.{length, drop}
use lib.Dec.{eqb}
use Rattle.words.specs.Tests.{by_bool, clash, and_split, and_false, or_cases, or_l, or_r, or_false}
use Rattle.records.specs.Records.{is_sweep, is_end}
use Rattle.book.specs.Lines.{Line, has_commit, has_end, filtered}
use Rattle.book.specs.Books.{Stage, Book, counts_committed, counts_full, committed_lines, surviving, stopped}
use Rattle.book_laws.specs.Seen.{counted, committed_of}
use Rattle.book_laws.specs.Keeping.{In, here, later, any_line}
use Rattle.book_laws.proofs.Ends.{commits, ends, commit_any, end_any, ended_by, commit_ends}
use Rattle.book_laws.proofs.Running.{runs_none}

pub filtered_twice : (c d s : Line → Bool) (ls : List Line) → ((l : Line) → c l ≡ d l) → ((l : Line) → d l ≡ true → s l ≡ true) → filtered c (filtered s ls) ≡ filtered d ls
unfolding filtered
filtered_twice c d s [] h k = refl
filtered_twice c d s (l ∷ ls) h k = by_bool (s l)
    (λ e. rw (e, filtered, h l, filtered_twice c d s ls h k))
    (λ e. rw e (by_bool (d l) (λ z. clash (k l z) e) (λ z. rw z (filtered_twice c d s ls h k))))

pub any_filtered : (f s : Line → Bool) (ls : List Line) → ((l : Line) → In l ls → f l ≡ true → s l ≡ true) → any_line f (filtered s ls) ≡ any_line f ls
unfolding filtered any_line
any_filtered f s [] h = refl
any_filtered f s (l ∷ ls) h = let ih = any_filtered f s ls (λ m i. h m (later i)) in by_bool (s l)
    (λ e. rw (e, any_line, ih))
    (λ e. rw e (by_bool (f l) (λ z. clash (h l here z) e) (λ z. rw z ih)))

-- the stable lines
abbrev pub stable_lines : Book → List Line
stable_lines b = drop (length b.lines - b.stable) b.lines

-- a line that a stop leaves
abbrev pub survives : List Line → Line → Bool
survives ls l = is_sweep l.entry || has_end l.owner ls

-- ends survive
pub survive_end : (i : ℕ) (ls : List Line) → has_end i (filtered (survives ls) ls) ≡ has_end i ls
survive_end i ls = end_any i (filtered (survives ls) ls) ∙ any_filtered (ends i) (survives ls) ls
    (λ l j e. or_r (is_sweep l.entry) (has_end l.owner ls) (ended_by l.owner ls l j (and_split (is_end l.entry) (eqb l.owner i) e).0 refl)) ∙ sym (end_any i ls)

survive_commit : (i : ℕ) (ls : List Line) → has_commit i (filtered (survives ls) ls) ≡ has_commit i ls
survive_commit i ls = commit_any i (filtered (survives ls) ls) ∙ any_filtered (commits i) (survives ls) ls
    (λ l j e. or_r (is_sweep l.entry) (has_end l.owner ls) (ended_by l.owner ls l j (rw (and_split (eqb l.entry.kind 4) (eqb l.owner i) e).0 refl) refl))
    ∙ sym (commit_any i ls)

survivors : (ls : List Line) → filtered (counted (filtered (survives ls) ls)) (filtered (survives ls) ls) ≡ committed_of ls
unfolding committed_of
survivors ls = filtered_twice (counted (filtered (survives ls) ls)) (counted ls) (survives ls) ls
    (λ l. rw (survive_commit l.owner ls))
    (λ l e. elim (or_cases (is_sweep l.entry) (not l.struck && has_commit l.owner ls) e) [
      | inl z ↦ or_l (is_sweep l.entry) (has_end l.owner ls) z
      | inr z ↦ or_r (is_sweep l.entry) (has_end l.owner ls) (commit_ends l.owner ls (and_split (not l.struck) (has_commit l.owner ls) z).1)
    ])

pub stop_committed : (g : Stage) (b : Book) → committed_lines (stopped g b) ≡ committed_of (stable_lines b)
unfolding committed_lines surviving
stop_committed g b = survivors (stable_lines b)

-- nobody runs: the full pages are the committed state
pub stop_counts : (g : Stage) (b : Book) (l : Line) → counts_full (stopped g b) l ≡ counts_committed (stopped g b) l
stop_counts g b l = rw (runs_none (stopped g b) l.owner (λ t. refl), and_false (not l.struck), or_false (counts_committed (stopped g b) l))
