-- Reopening, by the tests in the code. Assumes nothing.
use Rattle.std.specs.Prelude.{ℕ, ◌*◌, ◌≤◌, ◌≡◌, Bool, true, false, ◌&&◌, List, length, get_or, set, replicate, leb, Ok, Err}
use Rattle.std.proofs.Math.Path.{refl}
use Rattle.std.proofs.Common.{sym, ◌∙◌, arith, leb-true}
use Rattle.words.specs.Tests.{if, if_t, if_f, all, clash, and_split}
use Rattle.pages.specs.Soundness.{area_sound, free_zero}
use Rattle.records.specs.Records.{record_words}
use Rattle.records.specs.Soundness.{records_sound}
use Rattle.records.specs.Order.{open_in, log_sound}
use Rattle.records.specs.Recovery.{recovered, recoverable}
use Rattle.record_laws.specs.RecordLaws.{log_sound_records}
use Rattle.areas.specs.declared.Refusal.{Refusal}
use Rattle.areas.specs.declared.Refusal.TheVariants.{Malformed, Unsound}
use Rattle.areas.specs.Answers.{all_passed, need_holds, need_fails, Answer}
use Rattle.areas.specs.Areas.{areas, out, checked_pass, checked_refuse}
use Rattle.areas.specs.Layout.{reopening_at, running}
use Rattle.areas.specs.Ranges.{pages_in, records_in, fit}
use Rattle.calls.specs.Reopening.{reopen_tests, reopened, call_reopen}
use Rattle.log_replay.specs.Reading.{found_of, found_sound, found_unsound}

-- 'a free slot that is not zero' after the undoing is unsound: stored pages a, n of them, and the first c records of g
abbrev pub free_after : List ℕ → List ℕ → ℕ → ℕ → Bool
free_after a g n c = all (free_zero (recovered a g c)) n

-- what the check found of stored pages a and a log g, and what recovering asks
pub record Found (a g : List ℕ) (c m : ℕ) : Type 0 where
  pub fits : record_words * c ≤ length g
  pub count : leb c (records_in (length g)) ≡ true
  pub area : area_sound a (pages_in (length a)) ≡ true
  pub log : log_sound (pages_in (length a)) g c ≡ true
  pub sound : records_sound (pages_in (length a)) g c ≡ true
  pub left : m ≡ open_in g c

pub found : (a g : List ℕ) (c m : ℕ) → found_of (pages_in (length a)) (records_in (length g)) a g c ≡ Ok m → Found a g c m
found a g c m h =
    let f = found_sound _ _ a g c m h in
    let p = and_split (leb c (records_in (length g)) && area_sound a (pages_in (length a))) (log_sound (pages_in (length a)) g c) f.0 in
    let q = and_split (leb c (records_in (length g))) (area_sound a (pages_in (length a))) p.0 in
    let u = leb-true c (records_in (length g)) q.0 in
    record { fits = omega arith; count = q.0; area = q.1; log = p.1; sound = log_sound_records _ g c p.1; left = f.1 }

-- the first three tests of refusal 14, before the fourth
stable_bad : (x y z f : Bool) → (x && y && z) ≡ false → (x && (y && z && f)) ≡ false
stable_bad true true true f e = clash refl e
stable_bad true true false f e = refl
stable_bad true false z f e = refl
stable_bad false y z f e = refl

-- the fourth, once they hold
then_free : (x y z f b : Bool) → x ≡ true → y ≡ true → z ≡ true → f ≡ b → (x && (y && z && f)) ≡ b
then_free x y z f b p q r e = rw (p, q, r) e

-- an area where the free slots are zero or not, which is b
stays : (b : Bool) (x a : List ℕ) {a' : List ℕ} → b ≡ false → a' ≡ if b x a → a' ≡ a
stays b x a e ea = ea ∙ if_f _ _ _ e

becomes : (b : Bool) (x a : List ℕ) {a' : List ℕ} → b ≡ true → a' ≡ if b x a → a' ≡ x
becomes b x a e ea = ea ∙ if_t _ _ _ e

same_areas : {s c c' r r' g k k' w w' : List ℕ} (a : Answer) → c ≡ c' → r ≡ r' → k ≡ k' → w ≡ w' → out a s c r g k w ≡ out a s c' r' g k' w'
same_areas a ec er ek ew = cc

module _ (s c r g k w : List ℕ) where
  pub reopen_malformed : fit (areas s c r g k w) ≡ false → out (Err Malformed) s c r g k w ≡ call_reopen (areas s c r g k w)
  unfolding call_reopen reopen_tests
  reopen_malformed h = checked_refuse _ _ _ _ (sym (need_fails _ _ _ _ h))

  module _ (h : fit (areas s c r g k w) ≡ true) where
    -- refusal 14 of the count, the stored pages or the records
    pub reopen_unsound : (x : Refusal) → found_of (pages_in (length s)) (records_in (length g)) s g (get_or k 1 0) ≡ Err x
        → out (Err x) s c r g k w ≡ call_reopen (areas s c r g k w)
    unfolding call_reopen reopen_tests recoverable
    reopen_unsound x e = let f = found_unsound _ _ s g (get_or k 1 0) x e in
        rw f.1 (checked_refuse _ _ _ _ (sym (need_fails _ _ _ _ (stable_bad (leb (get_or k 1 0) (records_in (length g))) (area_sound s (pages_in (length s))) (log_sound (pages_in (length s)) g (get_or k 1 0)) _ f.0) ∙ need_holds _ _ _ _ h)))

    -- b: the code's answer on the free slots, c' and r': copies and received pages after it
    module _ (m : ℕ) (e : found_of (pages_in (length s)) (records_in (length g)) s g (get_or k 1 0) ≡ Ok m) {b : Bool} {c' r' : List ℕ}
        (eb : b ≡ free_after s g (pages_in (length s)) (get_or k 1 0))
        (ec : c' ≡ if b (recovered s g (get_or k 1 0)) c) (er : r' ≡ if b (recovered s g (get_or k 1 0)) r) where
      pub reopen_unfree : b ≡ false → out (Err Unsound) s c' r' g k w ≡ call_reopen (areas s c r g k w)
      unfolding call_reopen reopen_tests recoverable
      reopen_unfree f = let o = found s g (get_or k 1 0) m e in
          same_areas (Err Unsound) (stays _ _ c f ec) (stays _ _ r f er) refl refl ∙ checked_refuse _ _ _ _ (sym (need_fails _ _ _ _ (then_free _ _ _ _ _ o.count o.area o.log (sym eb ∙ f)) ∙ need_holds _ _ _ _ h))

      pub reopen_done : {k' w' : List ℕ} → b ≡ true → k' ≡ set k 0 (get_or k 1 0) → w' ≡ set (replicate (length w) 0) reopening_at running
          → out (Ok 0) s c' r' g k' w' ≡ call_reopen (areas s c r g k w)
      unfolding call_reopen reopen_tests reopened recoverable
      reopen_done f ek ew = let o = found s g (get_or k 1 0) m e in
          same_areas (Ok 0) (becomes _ _ c f ec) (becomes _ _ r f er) ek ew ∙ checked_pass _ _ _ (sym (all_passed ∙ need_holds _ _ _ _ (then_free _ _ _ _ _ o.count o.area o.log (sym eb ∙ f)) ∙ need_holds _ _ _ _ h))
