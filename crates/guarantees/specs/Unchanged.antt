-- Demand 1: 'on refusal changes nothing'. Of every call on every lent state, of format, and of the buffers that a read, a chain and a share fill. Assumes nothing.
use Rattle.std.specs.Prelude.{ℕ, ◌≡◌, false, List}
use Rattle.areas.specs.Answers.{accepted}
use Rattle.areas.specs.Areas.{Areas}
use Rattle.calls.specs.Formatting.{call_format}
use Rattle.calls.specs.Objects.{call_read, buffer_after}
use Rattle.calls.specs.Chains.{call_chain, chain_after}
use Rattle.calls.specs.PassShares.{call_pass_share, pass_share_after}
use Rattle.calls.specs.Calls.{Call, perform}

pub record RefusalsChangeNothing : Type 0 where
  pub calls : (s : Areas) (c : Call) → accepted (perform s c).answer ≡ false → (perform s c).after ≡ s
  pub format : (s : Areas) → accepted (call_format s).answer ≡ false → (call_format s).after ≡ s
  pub buffer : (s : Areas) (t o : ℕ) (b : List ℕ) → accepted (call_read s t o b).answer ≡ false → buffer_after s t o b ≡ b
  pub chain : (s : Areas) (b : List ℕ) (o : ℕ) → accepted (call_chain s b o).answer ≡ false → chain_after s b o ≡ b
  pub share : (s : Areas) (b : List ℕ) (m : ℕ) → accepted (call_pass_share s b m).answer ≡ false → pass_share_after s b m ≡ b
