use Rattle.radpolicy_clients.proofs.Choosing.{meant_ref}
use Rattle.radpolicy_clients.proofs.clients.Clients.client_for.Goals as goal

pub returns-clause-meant : goal.returns-clause-meant
returns-clause-meant c =
    meant_ref c.args.self.now c.args.address c.find.result c.find.ensures
