use denote.RattleType.{RattleType}
use denote.Param.Send.{IsSend}
use Rattle.far_sessions.specs.contracts.kept.Kept.{the_row}
use Rattle.far_sessions.proofs.Sent as sent

pub send : (S V : RattleType) → IsSend S → IsSend (the_row S V)
send = sent.kept_send
