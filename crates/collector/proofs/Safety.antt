-- The invariant gives the claim. Assumes nothing.
use Prim.Native.Nat.{ℕ, ◌≤◌}
use mathlib.Core.Path.{◌≡◌, refl, ap}
use mathlib.Core.Bool.{true}
use mathlib.Core.Logic.{◌⊎◌, inl, inr}
use Rattle.collector.specs.Bits.{◌or◌, clash, and_l, and_r}
use Rattle.collector.specs.Objects.{is_ref, page_of, root, edge, Reach}
use Rattle.collector.specs.State.{sweeping, St}
use Rattle.collector.specs.Claim.{reclaims, Leads, Sound}
use Rattle.collector.proofs.Objects.{unoccupied, reach}
use Rattle.collector.proofs.Safe.{is_sweeping_law}
use Rattle.collector.proofs.Invariant.{TaggedIn, before, empty, stored, Inv}
use Rattle.collector.proofs.Tables.{by_writer}
use Rattle.collector.proofs.Known.{target, received}
use Rattle.collector.proofs.Sweep.{spared_reached, spared_known}

-- what the full pages reach is committed and reached, or made by a transaction that runs
full_reach : (s : St) → Inv s → {x : ℕ} → Reach s.pages.rec x → Reach s.pages.cmt x ⊎ ((t : ℕ) × ((s.tables.cot t x ≡ true) × ((s.pages.rec x).occ ≡ true)))
full_reach s i root = inl root
full_reach s i (edge {o} {x} p h e) = let b = full_reach s i p in received s i o x e
    (λ k. elim b [ inl r ↦ inl (edge r refl k) | inr c ↦ unoccupied (s.pages.cmt o) x (i.known.made c.0 o c.1.0).out k ])
    (λ t w k. elim (i.known.knows t x k) [ inl c ↦ inr (t, c) | inr q ↦ inl (reach q) ])

full_there : (s : St) → Inv s → {x : ℕ} → Reach s.pages.rec x → (s.pages.rec x).occ ≡ true
full_there s i {x} p = elim (full_reach s i p) [ inl r ↦ i.agreed.keeps x (i.whole.wf x r) | inr c ↦ c.1.1 ]

full_leads : (s : St) → Inv s → Leads s.pages.rec s.tags.rec_tag
full_leads s i = record {
  occupied = λ o x p e. full_there s i (edge p refl e);
  since = λ o f p j z. by_writer i.exclusive (page_of o)
      (λ w. elim (full_reach s i p) [
        | inl r ↦ (let k = i.agreed.free_r o w in old o f r (rw k at j) z (ap (λ b. b.word f) k) (ap (λ b. b.time f) (i.dated.free_t o w)))
        | inr c ↦ clash (i.known.made c.0 o c.1.0).own (w c.0)
      ])
      (λ t w. go t o f p z (i.dated.tagged t o f w (full_there s i p) j));
}
  where
    old : (o f : ℕ) → Reach s.pages.cmt o → is_ref (s.pages.cmt o) f ≡ true → ((s.pages.rec o).word f ≡ 0 → ⊥) → (s.pages.rec o).word f ≡ (s.pages.cmt o).word f
        → (s.tags.rec_tag o).time f ≡ (s.tags.cmt_tag o).time f → (s.tags.rec_tag ((s.pages.rec o).word f)).born ≤ (s.tags.rec_tag o).time f
    old o f r j z y w = let z' : (s.pages.cmt o).word f ≡ 0 → ⊥ = rw y at z in
        rw (y, w, i.dated.same_born ((s.pages.cmt o).word f) (i.whole.wf _ (target i.whole o f r j z'))) (i.whole.leads o f r j z')

    go : (t o f : ℕ) → Reach s.pages.rec o → ((s.pages.rec o).word f ≡ 0 → ⊥) → TaggedIn s t o f
        → (s.tags.rec_tag ((s.pages.rec o).word f)).born ≤ (s.tags.rec_tag o).time f
    go t o f p z (before a j y w) = elim (full_reach s i p) [ inl r ↦ old o f r j z y w | inr c ↦ clash a (i.known.made c.0 o c.1.0).out ]
    go t o f p z (empty a) = absurd (z a)
    go t o f p z (stored a y) = y

pub sound : (s : St) → Inv s → Sound s
sound s i = record {
  unreached = λ x d p. clash (and_r _ _ d) (spared_reached s i (phase x d) p);
  unknown = λ t x d k. clash (and_r _ _ d) (spared_known s i (phase x d) t x k);
  committed = record { occupied = λ o x p e. i.whole.wf x (edge p refl e); since = i.whole.leads };
  full = full_leads s i;
}
  where
    phase : (x : ℕ) → reclaims s x ≡ true → s.pass.phase ≡ sweeping
    phase x d = is_sweeping_law _ (and_l _ _ d)
