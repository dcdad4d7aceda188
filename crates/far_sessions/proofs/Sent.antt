use denote.RattleType.{RattleType}
use denote.Param.Send.{IsSend, IsSync, owning_send, part_keyless}
use Rattle.atomic_table.proofs.shared.Seat.TheSendSync.{the_send as seat_send}
use Rattle.far_sessions.specs.contracts.kept.Kept.{the_row, the_type}

pub kept_send : (S V : RattleType) → IsSend S → IsSend (the_row S V)
kept_send S V s = owning_send (the_type S V) (seat_send S V s, tt) (λ d. tt) (λ k x w. (tt, tt))

pub kept_sync : (S V : RattleType) → IsSend S → IsSync (the_row S V)
kept_sync S V s = record { shared = λ d b o ν q. part_keyless (the_row S V) (kept_send S V s) q d b o }
