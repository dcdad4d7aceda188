use denote.RattleType.{RattleType}
use denote.Param.Send.{IsSend, IsSync}
use Rattle.far_sessions.specs.contracts.kept.Kept.{the_row}
use Rattle.far_sessions.proofs.Sent as sent

pub sync : (S V : RattleType) → IsSend S → IsSync (the_row S V)
sync = sent.kept_sync
