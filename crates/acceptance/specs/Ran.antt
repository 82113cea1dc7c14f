-- What an accepted call went through, and that a refused one changes nothing, of calls in general. Assumes nothing.
use Rattle.std.specs.Prelude.{ℕ, ◌≡◌, Bool, true, false, List, Ok, Err}
use Rattle.std.proofs.Math.Path.{refl}
use Rattle.words.specs.Tests.{clash}
use Rattle.areas.specs.Answers.{Test, accepted, verdict, passed, passed_rest, Check}
use Rattle.areas.specs.Areas.{Areas, Out, done, checked}
use Rattle.areas.specs.Entry.{pages, well_formed, is_ready, all_tests, called}

-- refusals 1 and 2 did not stop a call on n pages
pub record Admitted (must own : Bool) (s : Areas) (n : ℕ) : Type 0 where
  pub formed : well_formed own s ≡ true
  pub ready : is_ready must s ≡ true
  pub count : pages s ≡ n

-- an accepted call's outcome o: refusals 1 and 2 did not stop it on n pages, its own tests passed, and it did what k says
pub record Ran (must own : Bool) (s : Areas) (tests : ℕ → List Test) (o : Out) (k : ℕ → Out) : Type 0 where
  pub n : ℕ
  pub ready : Admitted must own s n
  pub passed : verdict (tests n) ≡ Ok tt
  pub gives : o ≡ k n

-- the same of a check without refusals 1 and 2
pub record Passed (check : Check) (o k : Out) : Type 0 where
  pub passed : check ≡ Ok tt
  pub gives : o ≡ k

-- 'Refused calls change nothing'
abbrev pub Keeps : Areas → Out → Type 0
Keeps s o = accepted o.answer ≡ false → o.after ≡ s

pub done_keeps : (s : Areas) (v : ℕ) (a : Areas) → Keeps s (done v a)
done_keeps s v a e = clash refl e

-- of the outcome o of a call: what it went through where it was accepted, and that it keeps everything where it was refused
pub record Outcome (must own : Bool) (s : Areas) (tests : ℕ → List Test) (o : Out) (k : ℕ → Out) : Type 0 where
  pub ran : accepted o.answer ≡ true → Ran must own s tests o k
  pub keeps : Keeps s o

pub checked_ran : (check : Check) (s : Areas) (k : Out) → accepted (checked check s k).answer ≡ true → Passed check (checked check s k) k
checked_ran (Ok tt) s k h = record { passed = refl; gives = refl }
checked_ran (Err x) s k h = clash h refl

pub checked_keeps : (check : Check) (s : Areas) (k : Out) → Keeps s k → Keeps s (checked check s k)
checked_keeps (Ok tt) s k h = h
checked_keeps (Err x) s k h = λ e. refl

-- of every call in the frame
module _ (must own : Bool) (s : Areas) (tests : ℕ → List Test) where
  pub outcome : (k : ℕ → Out) → ((n : ℕ) → Keeps s (k n)) → Outcome must own s tests (called must own s tests k) k
  unfolding called
  outcome k h =
      record {
        ran = λ a. (let p = checked_ran (verdict (all_tests must own s (tests (pages s)))) s (k (pages s)) a in record {
          n = pages s;
          ready = record { formed = passed _ 0 p.passed; ready = passed _ 1 p.passed; count = refl };
          passed = passed_rest _ _ (passed_rest _ _ p.passed);
          gives = p.gives;
        });
        keeps = checked_keeps (verdict (all_tests must own s (tests (pages s)))) s (k (pages s)) (h (pages s));
      }

  -- one that is done there
  pub outcome_done : (v : ℕ → ℕ) (a : ℕ → Areas) → Outcome must own s tests (called must own s tests (λ n. done (v n) (a n))) (λ n. done (v n) (a n))
  outcome_done v a = outcome (λ n. done (v n) (a n)) (λ n. done_keeps s (v n) (a n))
