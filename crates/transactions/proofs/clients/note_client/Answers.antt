use Rattle.transactions.proofs.clients.note_client.Goals as goal

pub returns : goal.returns
returns c = rw c.client_at.ensures
