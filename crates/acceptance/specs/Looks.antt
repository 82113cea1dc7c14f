-- A call that only looks changes no word, accepted or refused. Assumes nothing.
use Rattle.std.specs.Prelude.{◌≡◌, true}
use Rattle.std.proofs.Common.{ap}
use Rattle.words.specs.Tests.{by_bool}
use Rattle.areas.specs.Answers.{accepted}
use Rattle.areas.specs.Areas.{Areas, Out, done}
use Rattle.calls.specs.Looks.{Look, call_look}
use Rattle.acceptance.specs.Ran.{Outcome, outcome_done}

pub look_outcome : (s : Areas) (q : Look) → Outcome true q.own s (q.tests s) (call_look s q) (λ n. done (q.value s n) s)
unfolding call_look
look_outcome s q = outcome_done _ _ _ _ (q.value s) (λ n. s)

pub look_keeps : (s : Areas) (q : Look) → (call_look s q).after ≡ s
look_keeps s q = by_bool (accepted (call_look s q).answer)
    (λ a. ap (λ (o : Out). o.after) ((look_outcome s q).ran a).gives)
    (λ a. (look_outcome s q).keeps a)
