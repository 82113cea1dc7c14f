-- The committed lines of a list: lines on top that do not count and strikes in what is not committed change nothing of them.
-- Assumes nothing.
use Prim.Native.Nat.{ℕ}
use mathlib.Core.Path.{◌≡◌, refl, ◌∙◌}
use mathlib.Core.Bool.{Bool, true, false, not, ◌&&◌}
use mathlib.Core.List.{List, [], ◌∷◌, ◌++◌}
use lib.ListN.{drop}
use lib.Dec.{eqb}
use Rattle.words.specs.Tests.{by_bool}
use Rattle.records.specs.Records.{is_sweep}
use Rattle.book.specs.Lines.{Line, struck_out, is_left, has_commit, filtered}
use Rattle.book_laws.specs.Seen.{counted, committed_of, seen}
use Rattle.book_laws.specs.Striking.{undoing_line, Strikes, none, stays, out}
use Rattle.book_laws.specs.Keeping.{In, here, later, Each}
use Rattle.book_laws.proofs.Members.{each_nil, each_cons}
use Rattle.book_laws.proofs.Folds.{seen_agree, seen_out}
use Rattle.book_laws.proofs.Undoing.{strikes_length, strikes_drop}
use Rattle.book_laws.proofs.Ends.{commit_past, commit_strikes, no_commit_drop, left_facts, undoing_kind}

-- lines that pass: the same by two tests that agree; none of lines that do not pass; those of lines struck out
pub filtered_same : (c d : Line → Bool) (ls : List Line) → Each (λ l. c l ≡ d l) ls → filtered c ls ≡ filtered d ls
unfolding filtered
filtered_same c d [] h = refl
filtered_same c d (l ∷ ls) h = rw (h l here, filtered_same c d ls (λ m i. h m (later i)))

pub filtered_none : (f : Line → Bool) (ls : List Line) → Each (λ l. f l ≡ false) ls → filtered f ls ≡ []
unfolding filtered
filtered_none f [] h = refl
filtered_none f (l ∷ ls) h = rw (h l here) (filtered_none f ls (λ m j. h m (later j)))

module _ (c : Line → Bool) where
  pub filtered_past : (a ls : List Line) → Each (λ l. c l ≡ false) a → filtered c (a ++ ls) ≡ filtered c ls
  unfolding filtered
  filtered_past [] ls h = refl
  filtered_past (l ∷ a) ls h = rw (h l here) (filtered_past a ls (λ m i. h m (later i)))

  pub seen_past_all : (p : List ℕ) (a ls : List Line) (x : ℕ) → Each (λ l. c l ≡ false) a → seen p c (a ++ ls) x ≡ seen p c ls x
  seen_past_all p [] ls x h = refl
  seen_past_all p (l ∷ a) ls x h = seen_out p c l (a ++ ls) x (h l here) ∙ seen_past_all p a ls x (λ m i. h m (later i))

-- strikes in lines that do not pass
module _ (d : Line → Bool) (i : ℕ) (here_out : (l : Line) → is_left i l ≡ true → (d l ≡ false) × (d (struck_out l) ≡ false)) where
  pub filtered_strikes : {ls ms : List Line} → Strikes i ls ms → filtered d ms ≡ filtered d ls
  unfolding filtered
  filtered_strikes none = refl
  filtered_strikes (stays {l} s) = by_bool (d l) (λ e. rw (e, filtered_strikes s)) (λ e. rw e (filtered_strikes s))
  filtered_strikes (out {l} e s) = rw ((here_out l e).0, (here_out l e).1) (filtered_strikes s)

  pub seen_struck : (p : List ℕ) (x : ℕ) {ls ms : List Line} → Strikes i ls ms → seen p d ms x ≡ seen p d ls x
  unfolding seen
  seen_struck p x none = refl
  seen_struck p x (stays {l} s) = rw (strikes_length i s, seen_struck p x s)
  seen_struck p x (out {l} e s) = rw ((here_out l e).0, (here_out l e).1) (seen_struck p x s)

-- two lists of lines with one committed state
pub record Alike (ls ms : List Line) : Type 0 where
  pub lines : committed_of ls ≡ committed_of ms
  pub shows : (p : List ℕ) (x : ℕ) → seen p (counted ls) ls x ≡ seen p (counted ms) ms x

pub alike_self : (ls : List Line) → Alike ls ls
alike_self ls = record { lines = refl; shows = λ p x. refl }

pub alike_trans : {ls ms ns : List Line} → Alike ls ms → Alike ms ns → Alike ls ns
alike_trans a b = record { lines = a.lines ∙ b.lines; shows = λ p x. a.shows p x ∙ b.shows p x }

-- a line that does not count in the committed state
pub record Idle (ls : List Line) (l : Line) : Type 0 where
  pub uncommitted : eqb l.entry.kind 4 ≡ false
  pub unswept : is_sweep l.entry ≡ false
  pub out : (not l.struck && has_commit l.owner ls) ≡ false

pub alike_past : (a ls : List Line) → Each (Idle ls) a → Alike (a ++ ls) ls
unfolding committed_of
alike_past a ls h = record {
  lines = filtered_past (counted (a ++ ls)) a ls idle ∙ filtered_same (counted (a ++ ls)) (counted ls) ls (λ l i. same l);
  shows = λ p x. seen_past_all (counted (a ++ ls)) p a ls x idle ∙ seen_agree p (counted (a ++ ls)) (counted ls) ls x (λ l i e. same l);
}
  where
    same : (l : Line) → counted (a ++ ls) l ≡ counted ls l
    same l = rw (commit_past l.owner a ls (λ m j. (h m j).uncommitted))

    idle : (l : Line) → In l a → counted (a ++ ls) l ≡ false
    idle l i = same l ∙ rw ((h l i).unswept, (h l i).out)

pub alike_strikes : (i : ℕ) {ls ms : List Line} → has_commit i ls ≡ false → Strikes i ls ms → Alike ms ls
unfolding committed_of
alike_strikes i {ls} {ms} h s = record {
  lines = filtered_same (counted ms) (counted ls) ms (λ l j. same l) ∙ filtered_strikes (counted ls) i outside s;
  shows = λ p x. seen_agree p (counted ms) (counted ls) ms x (λ l j e. same l) ∙ seen_struck (counted ls) i outside p x s;
}
  where
    same : (l : Line) → counted ms l ≡ counted ls l
    same l = rw (commit_strikes l.owner i s)

    outside : (l : Line) → is_left i l ≡ true → (counted ls l ≡ false) × (counted ls (struck_out l) ≡ false)
    outside l e = let f = left_facts i l e in (rw (f.unswept, f.struck, f.owner) h, rw f.unswept)

-- an undoing line on top of lines with strikes, whatever part of the lines a cut leaves
module _ (i : ℕ) (l : Line) {ls ms : List Line} (no : has_commit i ls ≡ false) (s : Strikes i ls ms) where
  pub alike_undoing : Alike (undoing_line i l ∷ ms) ls
  alike_undoing = alike_trans (alike_past (undoing_line i l ∷ []) ms (each_cons idle (each_nil (Idle ms)))) (alike_strikes i no s)
    where
      idle : Idle ms (undoing_line i l)
      idle = let k = undoing_kind l.entry in record { uncommitted = k.uncommitted; unswept = k.unswept; out = refl }

  pub alike_below : (j : ℕ) → Alike (drop j ms) (drop j ls)
  alike_below j = alike_strikes i (no_commit_drop i j ls no) (strikes_drop i j s)
