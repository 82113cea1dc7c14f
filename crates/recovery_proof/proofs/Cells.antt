-- Objects that agree in every cell that no record writes: how that goes on, and which areas do. Assumes nothing.
use Prim.Native.Nat.{ℕ}
use mathlib.Core.Path.{◌≡◌, refl, ◌∙◌}
use mathlib.Core.Bool.{Bool}
use mathlib.Core.List.{List}
use Rattle.words.specs.Tests.{by_bool}
use Rattle.records.specs.declared.Record.{Record}
use Rattle.collector.specs.Objects.{Obj}
use Rattle.collector.specs.State.{mix}
use Rattle.recovery_proof.specs.Lines.{replay, undo}
use Rattle.recovery_proof.specs.Shapes.{shapes}
use Rattle.recovery_proof.proofs.Decided.{SameCells, replay_occ, replay_word, undo_occ, undo_word}

module _ (rs : List Record) where
  pub same_self : (A : ℕ → Obj) → SameCells rs A A
  same_self A = record { occ = λ x h. refl; word = λ x f h. refl }

  pub same_trans : {A B C : ℕ → Obj} → SameCells rs A B → SameCells rs B C → SameCells rs A C
  same_trans s u = record { occ = λ x h. s.occ x h ∙ u.occ x h; word = λ x f h. s.word x f h ∙ u.word x f h }

  -- some pages of one, the others of another
  pub same_mix : (q : ℕ → Bool) (A B C : ℕ → Obj) → SameCells rs A C → SameCells rs B C → SameCells rs (mix q A B) C
  same_mix q A B C s u = record {
    occ = λ x h. by_bool (q x) (λ e. rw e (s.occ x h)) (λ e. rw e (u.occ x h));
    word = λ x f h. by_bool (q x) (λ e. rw e (s.word x f h)) (λ e. rw e (u.word x f h));
  }

  -- equal objects
  pub same_eq : (A B C : ℕ → Obj) → ((x : ℕ) → A x ≡ B x) → SameCells rs B C → SameCells rs A C
  same_eq A B C e s = record { occ = λ x h. rw (e x) (s.occ x h); word = λ x f h. rw (e x) (s.word x f h) }

  -- redoing and undoing leave what the records do not write
  pub replay_cells : (A : ℕ → Obj) → SameCells rs (λ x. replay A x (shapes rs)) A
  replay_cells A = record { occ = λ x h. replay_occ x A rs h; word = λ x f h. replay_word x f A rs h }

  pub undo_cells : (w : ℕ → Bool) (A : ℕ → Obj) → SameCells rs (λ x. undo x w (shapes rs) (A x)) A
  undo_cells w A = record { occ = λ x h. undo_occ x w rs (A x) h; word = λ x f h. undo_word x f w rs (A x) h }
