-- What the collector's invariant gives of a state. This machine serves the proof of demand 3; the claim of demand 3
-- itself never mentions it. Assumes nothing.
use Rattle.std.specs.Prelude.{ℕ, ◌≤◌, ◌≡◌, Bool, true}
use Rattle.collector.specs.Bits.{◌and◌}
use Rattle.collector.specs.Objects.{Obj, Tag, is_ref, points, Reach}
use Rattle.collector.specs.State.{St, is_sweeping}
use Rattle.collector.specs.Calls.{dead}

-- a pass step would free x
abbrev pub reclaims : St → ℕ → Bool
reclaims s x = is_sweeping s.pass.phase and dead s x

-- each reference in a reached object leads to an occupied one, and to the record that it was written for: no line since the word was
-- written creates or frees it
pub record Leads (m : ℕ → Obj) (tag : ℕ → Tag) : Type 0 where
  pub occupied : (o x : ℕ) → Reach m o → points (m o) x ≡ true → (m x).occ ≡ true
  pub since : (o f : ℕ) → Reach m o → is_ref (m o) f ≡ true → ((m o).word f ≡ 0 → ⊥) → (tag ((m o).word f)).born ≤ (tag o).time f

-- a sweep spares what the committed state reaches and what a transaction knows; pointers lead to their records in the committed
-- state and in the full pages
pub record Sound (s : St) : Type 0 where
  pub unreached : (x : ℕ) → reclaims s x ≡ true → Reach s.pages.cmt x → ⊥
  pub unknown : (t x : ℕ) → reclaims s x ≡ true → s.tables.kn t x ≡ true → ⊥
  pub committed : Leads s.pages.cmt s.tags.cmt_tag
  pub full : Leads s.pages.rec s.tags.rec_tag
