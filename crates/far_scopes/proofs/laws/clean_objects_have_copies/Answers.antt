use Rattle.far_scopes.proofs.MovementCopies.{copied}
use Rattle.far_scopes.proofs.laws.clean_objects_have_copies.Goals as goal

pub returns : goal.returns
returns g c = λ m o list tracked clean is here. copied _ _ _ m tracked clean o list is here
