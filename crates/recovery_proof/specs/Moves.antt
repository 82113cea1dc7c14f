-- A store that only logs, and the moves that calls are made of. This serves the proof of demand 3; its claim never mentions it.
-- Assumes nothing.
use Rattle.std.specs.Prelude.{ℕ, ◌≡◌, Bool, true, false, cond, List, [], ◌∷◌, eqb}
use Rattle.collector.specs.Objects.{Obj, blank, page_of}
use Rattle.collector.specs.State.{add, drop, mix}
use Rattle.recovery_proof.specs.Lines.{Line, began, kept, ended, acts, cleared, with, without}

-- full and committed objects, who writes which page, the running transactions, the lines
pub record Log : Type 0 where
  pub full : ℕ → Obj
  pub comm : ℕ → Obj
  pub wr : ℕ → ℕ → Bool
  pub act : ℕ → Bool
  pub lines : List Line

-- t writes the page of o
abbrev pub own : Log → ℕ → ℕ → Bool
own s t o = s.wr t (page_of o)

-- the log after each move
abbrev pub beginning : Log → ℕ → Log
beginning s t = record { full = s.full; comm = s.comm; wr = s.wr; act = with s.act t; lines = began t ∷ s.lines }

abbrev pub locking : Log → ℕ → ℕ → Log
locking s t p = record { full = s.full; comm = s.comm; wr = add s.wr t p; act = s.act; lines = s.lines }

abbrev pub wrote : Log → ℕ → ℕ → (Obj → Obj) → (Obj → Obj) → Log
wrote s t o d u = record { full = λ x. cond (eqb o x) (d (s.full x)) (s.full x); comm = s.comm; wr = s.wr; act = s.act; lines = acts t o d u ∷ s.lines }

abbrev pub committing : Log → ℕ → Log
committing s t = record { full = s.full; comm = mix (own s t) s.full s.comm; wr = drop s.wr t; act = without s.act t; lines = kept t ∷ s.lines }

abbrev pub ending : Log → ℕ → Log
ending s t = record { full = s.full; comm = s.comm; wr = drop s.wr t; act = without s.act t; lines = ended t ∷ s.lines }

abbrev pub sweeping : Log → (ℕ → Bool) → Log
sweeping s q = record { full = λ o. cond (q o) blank (s.full o); comm = λ o. cond (q o) blank (s.comm o); wr = s.wr; act = s.act; lines = cleared q ∷ s.lines }

-- What a call does to it: a call is none or several moves. An abort is writes and an end.
pub data Move (s : Log) : Log → Type 0 where
  begin : (t : ℕ) → s.act t ≡ false → Move s (beginning s t)
  -- nobody but t writes the page, and t may already
  lock : (t p : ℕ) → s.act t ≡ true → ((u : ℕ) → s.wr u p ≡ true → u ≡ t) → Move s (locking s t p)
  write : (t o : ℕ) (d u : Obj → Obj) → own s t o ≡ true → u (d (s.full o)) ≡ s.full o → Move s (wrote s t o d u)
  commit : (t : ℕ) → Move s (committing s t)
  -- t's pages are as committed
  end : (t : ℕ) → ((o : ℕ) → own s t o ≡ true → s.full o ≡ s.comm o) → Move s (ending s t)
  -- nobody writes the page of an object that is freed
  sweep : (q : ℕ → Bool) → ((o : ℕ) → q o ≡ true → (t : ℕ) → own s t o ≡ false) → Move s (sweeping s q)

pub data Moves (s : Log) : Log → Type 0 where
  none : Moves s s
  more : {a b : Log} → Moves s a → Move a b → Moves s b

-- no lines over these objects
abbrev pub opened : (ℕ → Obj) → Log
opened base = record { full = base; comm = base; wr = λ t p. false; act = λ t. false; lines = [] }
