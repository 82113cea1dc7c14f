use Prim.Native.Nat.{ℕ, zero, suc, ◌+◌, ◌-◌, ◌≤◌}
use native.Mathlib.Omega.{arith}
use native.Mathlib.Numerals.{add-one}
use mathlib.Core.Path.{◌≡◌, sym, ap, ◌∙◌}
use mathlib.Core.List.{List}
use lib.ListN.{length, replicate, set, length-replicate, length-take, length-drop}
use lib.Seq.{paste, paste-zero}
use Rattle.std.proofs.lemmas.List.Edits.{fill_from_more}
use Rattle.std.proofs.lemmas.Slice.{put_mid-paste}
use Rattle.words.specs.Spans.{fill}
use Rattle.calls.specs.Chains.{chain_words}
use Rattle.chain_trace.proofs.trace.clear.Goals as goal

zeros : (b : List ℕ) (d n : ℕ) → d + n ≤ length b → paste b d (replicate n 0) n ≡ fill (λ k. 0) b d n
unfolding fill
zeros b d zero l = sym (paste-zero b d (replicate 0 0))
zeros b d (suc n) l = ap (λ (k : ℕ). paste b d (replicate k 0) k) (sym (add-one n)) ∙ sym (fill_from_more b d n 0 (omega arith)) ∙ ap (λ (x : List ℕ). set x (d + n) 0) (zeros b d n (omega arith))

pub returns : goal.returns
returns c =
    let b = c.args.buffer.now in
    let n = chain_words - c.args.d in
    let r : c.fill.new.self ≡ replicate n 0 = c.fill.ensures.after (λ y e. e) ∙ ap (λ (k : ℕ). replicate k 0) (simp (length-take, length-drop) (omega arith)) in
    put_mid-paste c.args.d _ b c.fill.new.self (replicate n 0) n r (omega arith) (sym (length-replicate n 0)) ∙ zeros b c.args.d n (omega arith)
