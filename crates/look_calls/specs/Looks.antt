-- A call that only looks, by its first refusal or its value, and the buffer that it fills. Assumes nothing.
use Rattle.std.specs.Prelude.{ℕ, ◌≡◌, true, false, List, Ok, Err}
use Rattle.std.proofs.Common.{ap, ◌∙◌}
use Rattle.areas.specs.declared.Refusal.{Refusal}
use Rattle.areas.specs.declared.Refusal.TheVariants.{Malformed, NotOpen}
use Rattle.areas.specs.Answers.{verdict}
use Rattle.areas.specs.Areas.{Areas, Out, done, refused}
use Rattle.areas.specs.Entry.{pages, well_formed, is_ready, called_malformed, called_closed, called_refused, called_passed}
use Rattle.calls.specs.Looks.{Look, call_look}
use Rattle.calls.specs.Objects.{if_accepted}

module _ (s : Areas) (q : Look) where
  look_malformed : well_formed q.own s ≡ false → refused Malformed s ≡ call_look s q
  unfolding call_look
  look_malformed h = called_malformed _ _ _ _ _ h

  module _ (h : well_formed q.own s ≡ true) where
    look_closed : is_ready true s ≡ false → refused NotOpen s ≡ call_look s q
    unfolding call_look
    look_closed e = called_closed _ _ _ _ _ h e

    look_refused : is_ready true s ≡ true → (x : Refusal) → Err x ≡ verdict (q.tests s (pages s)) → refused x s ≡ call_look s q
    unfolding call_look
    look_refused e x d = called_refused _ _ _ _ _ x h e d

    look_passed : is_ready true s ≡ true → Ok tt ≡ verdict (q.tests s (pages s)) → done (q.value s (pages s)) s ≡ call_look s q
    unfolding call_look
    look_passed e d = called_passed _ _ _ _ _ h e d

-- b is its buffer, and full what an accepted call leaves there: its outcome and its buffer, which goes by the answer
module _ (s : Areas) (q : Look) (b full : List ℕ) where
  abbrev pub Gives : Out → List ℕ → Type 0
  Gives x l = (x ≡ call_look s q) × (l ≡ if_accepted (call_look s q).answer full b)

  by : (x : Out) → x ≡ call_look s q → Gives x (if_accepted x.answer full b)
  by x e = (e, ap (λ (y : Out). if_accepted y.answer full b) e)

  pub gives_malformed : well_formed q.own s ≡ false → Gives (refused Malformed s) b
  gives_malformed h = by _ (look_malformed s q h)

  module _ (h : well_formed q.own s ≡ true) where
    pub gives_closed : is_ready true s ≡ false → Gives (refused NotOpen s) b
    gives_closed e = by _ (look_closed s q h e)

    module _ (e : is_ready true s ≡ true) where
      pub gives_refused : (x : Refusal) → Err x ≡ verdict (q.tests s (pages s)) → Gives (refused x s) b
      gives_refused x d = by _ (look_refused s q h e x d)

      pub gives_passed : (v : ℕ) (l : List ℕ) → Ok tt ≡ verdict (q.tests s (pages s)) → v ≡ q.value s (pages s) → l ≡ full → Gives (done v s) l
      gives_passed v l d f g = let z = by (done v s) (ap (λ (y : ℕ). done y s) f ∙ look_passed s q h e d) in (z.0, g ∙ z.1)
