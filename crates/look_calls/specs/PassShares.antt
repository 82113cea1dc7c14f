-- The share of a pass: what its test gives the code, its outcome and its buffer. Assumes nothing.
use Rattle.std.specs.Prelude.{ℕ, ◌≤◌, ◌≡◌, true, false, List, length, eqb, leb, Ok, Err}
use Rattle.std.proofs.Math.Path.{ap}
use Rattle.std.proofs.Common.{◌∙◌, arith, eqb-true, leb-true}
use Rattle.words.specs.Tests.{and_split}
use Rattle.pages.specs.Geometry.{max_pages}
use Rattle.areas.specs.declared.Refusal.{Refusal}
use Rattle.areas.specs.declared.Refusal.TheVariants.{Malformed, NotOpen}
use Rattle.areas.specs.Answers.{verdict, passed}
use Rattle.areas.specs.Areas.{Areas, Out, areas, out}
use Rattle.areas.specs.Tables.{pass_pages}
use Rattle.areas.specs.Entry.{pages, well_formed, is_ready}
use Rattle.calls.specs.PassShares.{max_commits, share_words, share_whole, share_of, pass_share_tests, pass_share_look, call_pass_share, pass_share_after}
use Rattle.look_calls.specs.Looks.{Gives, gives_malformed, gives_closed, gives_refused, gives_passed}

-- the outcome and the buffer
abbrev pub ShareGives : Out → List ℕ → Areas → List ℕ → ℕ → Type 0
ShareGives x l s b m = (x ≡ call_pass_share s b m) × (l ≡ pass_share_after s b m)

-- what the test gives the code
pub share_ready : (b : List ℕ) (n m : ℕ) → n ≤ max_pages → eqb (length b) share_words ≡ true → verdict (pass_share_tests m) ≡ Ok tt → (n ≤ max_pages) × (1 ≤ m) × (length b ≡ share_words)
unfolding pass_share_tests
share_ready b n m top e p = (top, leb-true _ _ (and_split (leb 1 m) (leb m max_commits) (passed _ 0 p)).0, eqb-true _ _ e)

-- a pass covers all pages
covers_all : (w : List ℕ) (n : ℕ) → n ≡ pass_pages w n
covers_all w n = omega arith

module _ (s c r g k w b : List ℕ) (m : ℕ) where
  -- it is a call that only looks
  gives : (x : Out) (l : List ℕ) → Gives (areas s c r g k w) (pass_share_look b m) b (share_of (pass_pages w (pages (areas s c r g k w))) m) x l → ShareGives x l (areas s c r g k w) b m
  unfolding call_pass_share pass_share_after
  gives x l h = h

  pub share_malformed : well_formed (eqb (length b) share_words) (areas s c r g k w) ≡ false → ShareGives (out (Err Malformed) s c r g k w) b (areas s c r g k w) b m
  unfolding pass_share_look
  share_malformed h = gives _ _ (gives_malformed _ _ _ _ h)

  module _ (h : well_formed (eqb (length b) share_words) (areas s c r g k w) ≡ true) where
    pub share_closed : is_ready true (areas s c r g k w) ≡ false → ShareGives (out (Err NotOpen) s c r g k w) b (areas s c r g k w) b m
    unfolding pass_share_look
    share_closed e = gives _ _ (gives_closed _ _ _ _ h e)

    module _ (e : is_ready true (areas s c r g k w) ≡ true) where
      pub share_refused : (x : Refusal) → Err x ≡ verdict (pass_share_tests m) → ShareGives (out (Err x) s c r g k w) b (areas s c r g k w) b m
      unfolding pass_share_look
      share_refused x d = gives _ _ (gives_refused _ _ _ _ h e x d)

      pub share_passed : (v : ℕ) (b' : List ℕ) → Ok tt ≡ verdict (pass_share_tests m) →
          (v ≡ share_whole (pages (areas s c r g k w)) m) × (b' ≡ share_of (pages (areas s c r g k w)) m) →
          ShareGives (out (Ok v) s c r g k w) b' (areas s c r g k w) b m
      unfolding pass_share_look
      share_passed v b' d z = gives _ _ (gives_passed _ _ _ _ h e v b' d (z.0 ∙ ap (λ (n : ℕ). share_whole n m) (covers_all w _)) (z.1 ∙ ap (λ (n : ℕ). share_of n m) (covers_all w _)))
