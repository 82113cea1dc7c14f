-- A log and the page area that shows its records: kept by each further record that is sound and in order. n is the number of pages.
-- Assumes nothing.
use Prim.Native.Nat.{ℕ, suc, ◌*◌, ◌<◌}
use mathlib.Core.Path.{◌≡◌, sym, ap, ◌∙◌}
use mathlib.Core.Bool.{true}
use mathlib.Core.List.{List, ◌∷◌}
use lib.ListN.{length}
use Rattle.records.specs.declared.Record.{Record}
use Rattle.records.specs.Records.{record_at}
use Rattle.records.specs.Effects.{effect}
use Rattle.records.specs.Soundness.{record_sound}
use Rattle.records.specs.Order.{open_in, in_order, log_sound}
use Rattle.collector.specs.Objects.{Obj}
use Rattle.machine_view.specs.View.{view, applied}
use Rattle.record_laws.specs.EffectLaws.{length_effect}
use Rattle.machine_view.proofs.Records.{effect_view}
use Rattle.recovery_proof.specs.Lines.{replay}
use Rattle.recovery_proof.specs.Shapes.{shapes, recs}
use Rattle.recovery_proof.proofs.Shapes.{replay_shape}
use Rattle.recovery_proof.proofs.Appending.{recs_more, log_more}
use Rattle.recovery_proof.proofs.Maps.{Small, small_effect}
use Rattle.pages.specs.Geometry.{page_words}

-- log g of c records rs over the base, all sound and in order, and area a that shows them
pub record Logged (n : ℕ) (base : ℕ → Obj) (a g : List ℕ) (c : ℕ) (rs : List Record) : Type 0 where
  pub records : recs g c ≡ rs
  pub sound : log_sound n g c ≡ true
  pub size : length a ≡ page_words * n
  pub small : Small n a
  pub shown : (x : ℕ) → view a x ≡ replay base x (shapes rs)

-- log h has r behind g's records
pub logged_more : (n : ℕ) (base : ℕ → Obj) (a g : List ℕ) (c : ℕ) (rs : List Record) → Logged n base a g c rs
    → (h : List ℕ) (r : Record) → ((i : ℕ) → i < c → record_at h i ≡ record_at g i) → record_at h c ≡ r
    → record_sound n r ≡ true → in_order (open_in g c) r ≡ true → Logged n base (effect a r) h (suc c) (r ∷ rs)
unfolding shapes
logged_more n base a g c rs l h r old new s o = record {
  records = recs_more g h c r old new ∙ ap (λ (q : List Record). r ∷ q) l.records;
  sound = log_more g h c r old new n l.sound s o;
  size = length_effect a r ∙ l.size;
  small = small_effect n a l.size r s l.small;
  shown = λ x. effect_view n a l.size r s x ∙ ap (applied r x) (l.shown x) ∙ sym (replay_shape base r x (shapes rs));
}
