-- A set with the test of its own number, beside document 01's. Assumes nothing.
use Prim.Native.Nat.{ℕ}
use mathlib.Core.Path.{◌≡◌, refl}
use mathlib.Core.Bool.{Bool, true, false}
use mathlib.Core.List.{[], ◌∷◌}
use lib.Dec.{eqb}
use borrow.Author.Tests.{eqb-true, eq-eqb}
use Rattle.words.specs.Tests.{by_bool, and_split}
use Rattle.pages.specs.Geometry.{is_ref}
use Rattle.areas.specs.declared.Refusal.TheVariants.{Malformed, NotOpen, OutOfRange, WrongState, NotLocked, Unknown, LogFull, SelfReference}
use Rattle.areas.specs.Answers.{need, verdict}
use Rattle.areas.specs.Areas.{Areas, done, checked}
use Rattle.areas.specs.Entry.{called}
use Rattle.calls.specs.Objects.{names_itself, set_tests, call_set}
use Rattle.calls.specs.Calls.{perform}
use Rattle.own_number_laws.specs.Sets.{WritesOwn, SetsElseAsBefore, instead_of, OwnSetsRefused}

-- the test of L8 says what the sentence says
own_named : (s : Areas) (o f v : ℕ) → WritesOwn s o f v → names_itself s.received o f v ≡ true
own_named s o f v w = rw (w.reference, eq-eqb v o w.own) refl

other_named : (s : Areas) (o f v : ℕ) → (WritesOwn s o f v → ⊥) → names_itself s.received o f v ≡ false
other_named s o f v other = by_bool (names_itself s.received o f v)
    (λ e. let p = and_split (is_ref s.received o f) (eqb v o) e in absurd (other (record { reference = p.0; own = eqb-true v o p.1 })))
    (λ e. e)

pub sets_else_as_before : SetsElseAsBefore
unfolding perform call_set called set_tests verdict
sets_else_as_before s t o f v other = rw (other_named s o f v other) refl

-- a call's eight tests, the seventh of them failing, beside its seven
in_its_place : (a b c d e f g : Bool) (s : Areas) (v : ℕ) (z : Areas)
    → checked (verdict (need 1 Malformed a ∷ need 2 NotOpen b ∷ need 3 OutOfRange c ∷ need 4 WrongState d ∷ need 5 NotLocked e ∷ need 7 Unknown f ∷ need 18 SelfReference false ∷ need 11 LogFull g ∷ [])) s (done v z)
    ≡ record {
      answer = instead_of (checked (verdict (need 1 Malformed a ∷ need 2 NotOpen b ∷ need 3 OutOfRange c ∷ need 4 WrongState d ∷ need 5 NotLocked e ∷ need 7 Unknown f ∷ need 11 LogFull g ∷ [])) s (done v z)).answer;
      after = s;
    }
unfolding verdict
in_its_place false b c d e f g s v z = refl
in_its_place true false c d e f g s v z = refl
in_its_place true true false d e f g s v z = refl
in_its_place true true true false e f g s v z = refl
in_its_place true true true true false f g s v z = refl
in_its_place true true true true true false g s v z = refl
in_its_place true true true true true true false s v z = refl
in_its_place true true true true true true true s v z = refl

pub own_sets_refused : OwnSetsRefused
unfolding perform call_set called set_tests
own_sets_refused s t o f v w = rw (own_named s o f v w) (in_its_place _ _ _ _ _ _ _ s _ _)
