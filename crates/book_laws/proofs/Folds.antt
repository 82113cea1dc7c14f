-- Objects after the lines that pass a test: which lines and tests matter to an object, and that the pages show it so. Assumes nothing.
use Prim.Native.Nat.{ℕ, suc, ◌*◌}
use mathlib.Core.Path.{◌≡◌, refl, sym, ap, ◌∙◌}
use mathlib.Core.Bool.{Bool, true, false, ◌&&◌, ◌||◌}
use mathlib.Core.List.{List, [], ◌∷◌}
use lib.ListN.{length}
use lib.Dec.{eqb}
use Rattle.words.specs.Tests.{by_bool, clash, or_false_r}
use Rattle.pages.specs.Geometry.{page_words}
use Rattle.records.specs.declared.Record.{Record}
use Rattle.records.specs.Soundness.{record_sound}
use Rattle.machine_view.specs.View.{view, names, applied}
use Rattle.record_laws.specs.EffectLaws.{length_effect}
use Rattle.machine_view.proofs.Records.{effect_view}
use Rattle.book.specs.Lines.{Line, struck_out, is_left, filtered, pages_after}
use Rattle.book.specs.Pointers.{sweeps, makes_or_frees}
use Rattle.book_laws.specs.Seen.{touches, tagged, Seen, acted, seen}
use Rattle.book_laws.specs.Striking.{Strikes, none, stays, out}
use Rattle.book_laws.specs.Keeping.{In, here, later}
use Rattle.book_laws.proofs.Undoing.{strikes_length}

-- what a test that fails says of its parts: kinds 2, 3, 6, the object, a sweep
record Parts (two three six o s : Bool) : Type 0 where
  creates : (two && o) ≡ false
  sets : (three && o) ≡ false
  uncreates : (six && o) ≡ false
  frees : s ≡ false

parts : (two three six o s : Bool) → ((three && o) || (((two || six) && o) || s)) ≡ false → Parts two three six o s
parts two three six o true h = clash (sure (three && o) ((two || six) && o)) h
  where
    sure : (a b : Bool) → (a || (b || true)) ≡ true
    sure true b = refl
    sure false true = refl
    sure false false = refl
parts true true six true false h = clash refl h
parts true false six true false h = clash refl h
parts false true six true false h = clash refl h
parts false false true true false h = clash refl h
parts false false false true false h = record { creates = refl; sets = refl; uncreates = refl; frees = refl }
parts two three six false false h = record { creates = none two; sets = none three; uncreates = none six; frees = refl }
  where
    none : (a : Bool) → (a && false) ≡ false
    none true = refl
    none false = refl

-- a record that does not touch an object leaves it and its tag
pub untouched : (m : ℕ) (r : Record) (x : ℕ) (v : Seen) → touches r x ≡ false → acted m r x v ≡ v
unfolding applied tagged
untouched m r x v h = let p = parts (eqb r.kind 2) (eqb r.kind 3) (eqb r.kind 6) (eqb r.object x) (sweeps r x) h in
    rw (or_false_r (names 3 r x) (makes_or_frees r x) h, p.creates, p.sets, p.uncreates, p.frees)

-- a line that does not touch the object, and one that does not pass
pub seen_past : (a : List ℕ) (c : Line → Bool) (l : Line) (ls : List Line) (x : ℕ) → touches l.entry x ≡ false → seen a c (l ∷ ls) x ≡ seen a c ls x
unfolding seen
seen_past a c l ls x t = by_bool (c l) (λ k. rw (k, untouched (suc (length ls)) l.entry x (seen a c ls x) t)) (λ k. rw k)

pub seen_out : (a : List ℕ) (c : Line → Bool) (l : Line) (ls : List Line) (x : ℕ) → c l ≡ false → seen a c (l ∷ ls) x ≡ seen a c ls x
unfolding seen
seen_out a c l ls x e = rw e

pub seen_on : (a : List ℕ) (c : Line → Bool) (l : Line) (ls : List Line) (x : ℕ) → c l ≡ true → seen a c (l ∷ ls) x ≡ acted (suc (length ls)) l.entry x (seen a c ls x)
unfolding seen
seen_on a c l ls x e = rw e

-- two tests that agree on the lines that touch an object
pub seen_agree : (a : List ℕ) (c d : Line → Bool) (ls : List Line) (x : ℕ) → ((l : Line) → In l ls → touches l.entry x ≡ true → c l ≡ d l) → seen a c ls x ≡ seen a d ls x
unfolding seen
seen_agree a c d [] x h = refl
seen_agree a c d (l ∷ ls) x h = let ih = seen_agree a c d ls x (λ m i. h m (later i)) in by_bool (touches l.entry x)
    (λ e. rw (ih, h l here e))
    (λ e. seen_past a c l ls x e ∙ ih ∙ sym (seen_past a d l ls x e))

-- lines struck out that do not touch an object
pub seen_strikes : (a : List ℕ) (c : Line → Bool) (i : ℕ) (x : ℕ) {ls ms : List Line} → Strikes i ls ms → ((l : Line) → In l ls → is_left i l ≡ true → touches l.entry x ≡ false)
    → seen a c ms x ≡ seen a c ls x
unfolding seen
seen_strikes a c i x none h = refl
seen_strikes a c i x (stays {l} s) h = rw (strikes_length i s, seen_strikes a c i x s (λ m j. h m (later j)))
seen_strikes a c i x (out {l} {ls} {ms} e s) h = seen_past a c (struck_out l) ms x (h l here e) ∙ seen_strikes a c i x s (λ m j. h m (later j)) ∙ sym (seen_past a c l ls x (h l here e))

-- the pages after the lines that pass, whose records are sound, from pages a of n on
module _ (n : ℕ) (a : List ℕ) (size : length a ≡ page_words * n) (c : Line → Bool) where
  pub after_length : (ls : List Line) → ((l : Line) → In l ls → c l ≡ true → record_sound n l.entry ≡ true) → length (pages_after a (filtered c ls)) ≡ page_words * n
  unfolding pages_after filtered
  after_length [] h = size
  after_length (l ∷ ls) h = let ih = after_length ls (λ m i. h m (later i)) in by_bool (c l)
      (λ e. rw e (length_effect (pages_after a (filtered c ls)) l.entry ∙ ih))
      (λ e. rw e ih)

  pub after_view : (ls : List Line) → ((l : Line) → In l ls → c l ≡ true → record_sound n l.entry ≡ true) → (x : ℕ)
      → view (pages_after a (filtered c ls)) x ≡ (seen a c ls x).object
  unfolding pages_after filtered seen
  after_view [] h x = refl
  after_view (l ∷ ls) h x = let k : (m : Line) → In m ls → c m ≡ true → record_sound n m.entry ≡ true = λ m i. h m (later i) in by_bool (c l)
      (λ e. rw e (effect_view n (pages_after a (filtered c ls)) (after_length ls k) l.entry (h l here e) x ∙ ap (applied l.entry x) (after_view ls k x)))
      (λ e. rw e (after_view ls k x))
