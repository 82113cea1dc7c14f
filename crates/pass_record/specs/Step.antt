-- The pass record by value, and one step of it; what it is of document 01's definitions. n is the number of pages. Assumes nothing.
use Rattle.std.specs.Prelude.{ℕ, ◌+◌, ◌*◌, ◌<◌, ◌≤◌, min, ◌≡◌, Bool, List, eqb, ltb}
use Rattle.std.proofs.Math.Path.{refl, sym, ap}
use Rattle.std.proofs.Common.{◌∙◌, eq-eqb, ne_eqb, lt-ltb, le-ltb}
use Rattle.std.proofs.Math.Bool.{true, false}
use Rattle.words.specs.Tests.{if, if_t, if_f, by_bool}
use Rattle.areas.specs.Layout.{phase_at, pass_page_at, steps_at, steps_top}
use Rattle.areas.specs.Tables.{at, pass_first, pass_end, with_pass, steps_next}
use Rattle.calls.specs.Pass as spec
use Rattle.pass_record.specs.declared.Pass.{Pass}

unfoldable pub pass_of : List ℕ → Pass
pass_of w = record { phase = at w phase_at; page = at w pass_page_at; steps = at w steps_at }

unfoldable pub with_record : List ℕ → Pass → List ℕ
with_record w p = with_pass w p.phase p.page p.steps

-- a pass record of w and its words
module _ (w : List ℕ) (p : Pass) (own : p ≡ pass_of w) where
  pub own_phase : p.phase ≡ at w phase_at
  unfolding pass_of
  own_phase = ap (λ (y : Pass). y.phase) own

  pub own_page : p.page ≡ at w pass_page_at
  unfolding pass_of
  own_page = ap (λ (y : Pass). y.page) own

pub put_is : (w : List ℕ) (p : Pass) → with_record w p ≡ with_pass w p.phase p.page p.steps
unfolding with_record
put_is w p = refl

-- one more step, up to the bound
abbrev pub steps_after : ℕ → ℕ → ℕ
steps_after steps n = min (steps + 1) (steps_top n)

-- 'One pass step advances the pass record by one object or one page.' grey: an object is left to mark; first and end: the first page that is swept, and the page
-- at which the pass is over
unfoldable pub pass_next : Pass → ℕ → ℕ → ℕ → Bool → Pass
pass_next p n first end grey =
    let object : Pass = record { phase = 1; page = p.page; steps = steps_after p.steps n } in
    let turn : Pass = record { phase = 2; page = first; steps = steps_after p.steps n } in
    let page : Pass = record { phase = 2; page = p.page + 1; steps = steps_after p.steps n } in
    let over : Pass = record { phase = 0; page = 0; steps = 0 } in
    if (eqb p.phase 1) (if grey object turn) (if (ltb (p.page + 1) end) page over)

-- the four ways of a step
module _ (p : Pass) (n first end : ℕ) (grey : Bool) (steps : ℕ) (more : steps ≡ steps_after p.steps n) where
  pub next_object : p.phase ≡ 1 → grey ≡ true → record { phase = 1; page = p.page; steps = steps } ≡ pass_next p n first end grey
  unfolding pass_next
  next_object h e = rw (more, e) (sym (if_t _ _ _ (eq-eqb p.phase 1 h)))

  pub next_turn : p.phase ≡ 1 → grey ≡ false → record { phase = 2; page = first; steps = steps } ≡ pass_next p n first end grey
  unfolding pass_next
  next_turn h e = rw (more, e) (sym (if_t _ _ _ (eq-eqb p.phase 1 h)))

  module _ (sweeping : p.phase ≡ 1 → ⊥) where
    pub next_page : p.page + 1 < end → record { phase = 2; page = p.page + 1; steps = steps } ≡ pass_next p n first end grey
    unfolding pass_next
    next_page h = rw more (sym (if_f _ _ _ (ne_eqb p.phase 1 sweeping) ∙ if_t _ _ _ (lt-ltb (p.page + 1) end h)))

    pub next_over : end ≤ p.page + 1 → record { phase = 0; page = 0; steps = 0 } ≡ pass_next p n first end grey
    unfolding pass_next
    next_over h = sym (if_f _ _ _ (ne_eqb p.phase 1 sweeping) ∙ if_f _ _ _ (le-ltb (p.page + 1) end h))

-- the pass record p of w, and what put back after a step over the pages from first to end is of the calls' definitions
module _ (w : List ℕ) (n : ℕ) (p q : Pass) (own : p ≡ pass_of w) (first end : ℕ) where
  pub marked_one : (x : List ℕ) → p.phase ≡ 1 → q ≡ pass_next p n first end true → with_record x q ≡ with_pass x 1 (at w pass_page_at) (steps_next w n)
  unfolding pass_of with_record
  marked_one x h e = ap (with_record x) (e ∙ sym (next_object p n first end true _ refl h refl)) ∙ ap (λ (y : Pass). with_pass x 1 y.page (steps_after y.steps n)) own

  pub turned : first ≡ pass_first w n → (x : List ℕ) → p.phase ≡ 1 → q ≡ pass_next p n first end false → with_record x q ≡ with_pass x 2 (pass_first w n) (steps_next w n)
  unfolding pass_of with_record
  turned from x h e = ap (with_record x) (e ∙ sym (next_turn p n first end false _ refl h refl)) ∙ rw from (ap (λ (y : Pass). with_pass x 2 (pass_first w n) (steps_after y.steps n)) own)

  pub swept_one : end ≡ pass_end w n → (g : Bool) → (p.phase ≡ 1 → ⊥) → q ≡ pass_next p n first end g → with_record w q ≡ spec.advanced w n p.page
  unfolding pass_of with_record pass_next spec.advanced
  swept_one to g h e =
      let k = e ∙ if_f _ _ _ (ne_eqb p.phase 1 h) in
      by_bool (ltb (p.page + 1) end)
      (λ t. ap (with_record w) (k ∙ if_t _ _ _ t) ∙ ap (λ (y : Pass). with_pass w 2 (p.page + 1) (steps_after y.steps n)) own ∙ sym (if_t _ _ _ (ap (ltb (p.page + 1)) (sym to) ∙ t)))
      (λ t. ap (with_record w) (k ∙ if_f _ _ _ t) ∙ sym (if_f _ _ _ (ap (ltb (p.page + 1)) (sym to) ∙ t)))
