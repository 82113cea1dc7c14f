-- Which of two chains is ahead: laws of the order, and what one link more does to it. Assumes nothing.
use Rattle.std.specs.Prelude.{ℕ, suc, ◌<◌, ◌≡◌, refl, ◌⊎◌, List, [], ◌∷◌, ◌++◌, length}
use Rattle.std.proofs.Common.{arith, sym, ap, ◌∙◌, subst, inl, inr, length-append}
use Rattle.reach.specs.Chains.{Lower, Ahead}

-- c is d, or ahead of it
abbrev pub UpTo : List ℕ → List ℕ → Type 0
UpTo c d = (d ≡ c) ⊎ Ahead c d

lower_trans : (c d e : List ℕ) → Lower c d → Lower d e → Lower c e
lower_trans [] d e h k = absurd h
lower_trans (v ∷ c) [] e h k = absurd h
lower_trans (v ∷ c) (w ∷ d) [] h k = absurd k
lower_trans (v ∷ c) (w ∷ d) (x ∷ e) (inl h) (inl k) = inl (omega arith)
lower_trans (v ∷ c) (w ∷ d) (x ∷ e) (inl h) (inr k) = inl (let z = k.0 in omega arith)
lower_trans (v ∷ c) (w ∷ d) (x ∷ e) (inr h) (inl k) = inl (let z = h.0 in omega arith)
lower_trans (v ∷ c) (w ∷ d) (x ∷ e) (inr h) (inr k) = inr (h.0 ∙ k.0, lower_trans c d e h.1 k.1)

lower_more : (c d e f : List ℕ) → Lower c d → Lower (c ++ e) (d ++ f)
lower_more [] d e f h = absurd h
lower_more (v ∷ c) [] e f h = absurd h
lower_more (v ∷ c) (w ∷ d) e f (inl h) = inl h
lower_more (v ∷ c) (w ∷ d) e f (inr h) = inr (h.0, lower_more c d e f h.1)

lower_last : (c : List ℕ) (v w : ℕ) → v < w → Lower (c ++ (v ∷ [])) (c ++ (w ∷ []))
lower_last [] v w l = inl l
lower_last (u ∷ c) v w l = inr (refl, lower_last c v w l)

pub ahead_trans : (c d e : List ℕ) → Ahead c d → Ahead d e → Ahead c e
ahead_trans c d e (inl h) (inl k) = inl (omega arith)
ahead_trans c d e (inl h) (inr k) = inl (let z = k.0 in omega arith)
ahead_trans c d e (inr h) (inl k) = inl (let z = h.0 in omega arith)
ahead_trans c d e (inr h) (inr k) = inr (h.0 ∙ k.0, lower_trans c d e h.1 k.1)

pub link_length : (c : List ℕ) (x : ℕ) → length (c ++ (x ∷ [])) ≡ suc (length c)
link_length c x = rw (length-append) (omega arith)

-- a chain and the same with one link more
pub ahead_longer : (c : List ℕ) (x : ℕ) → Ahead c (c ++ (x ∷ []))
ahead_longer c x = inl (let e = link_length c x in omega arith)

-- one link more to each of two chains
pub ahead_linked : (c d : List ℕ) (x y : ℕ) → Ahead c d → Ahead (c ++ (x ∷ [])) (d ++ (y ∷ []))
ahead_linked c d x y (inl h) = let e = link_length c x in let f = link_length d y in inl (omega arith)
ahead_linked c d x y (inr h) = inr (link_length c x ∙ ap suc h.0 ∙ sym (link_length d y), lower_more c d (x ∷ []) (y ∷ []) h.1)

-- two links from one chain
pub ahead_lower : (c : List ℕ) (v w : ℕ) → v < w → Ahead (c ++ (v ∷ [])) (c ++ (w ∷ []))
ahead_lower c v w l = inr (link_length c v ∙ sym (link_length c w), lower_last c v w l)

pub up_linked : (c d : List ℕ) (x : ℕ) → UpTo c d → UpTo (c ++ (x ∷ [])) (d ++ (x ∷ []))
up_linked c d x (inl e) = inl (ap (λ (l : List ℕ). l ++ (x ∷ [])) e)
up_linked c d x (inr h) = inr (ahead_linked c d x x h)

pub up_trans : (c d e : List ℕ) → UpTo c d → UpTo d e → UpTo c e
up_trans c d e (inl h) k = subst (λ (l : List ℕ). UpTo l e) h k
up_trans c d e (inr h) (inl k) = inr (subst (Ahead c) (sym k) h)
up_trans c d e (inr h) (inr k) = inr (ahead_trans c d e h k)
