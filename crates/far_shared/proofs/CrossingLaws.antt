-- Four tables under their locks may be sent to and shared by threads, if the store's tickets may.
use denote.RattleType.{RattleType}
use denote.Struct.Struct.{Struct}
use denote.Struct.Declared as declared
use denote.Param.{number}
use denote.Param.Send.{IsSend, IsSync, AllSend, AllSync, view_send, view_sync, struct_send, struct_sync, recorded_send, recorded_sync}
use Rattle.std.specs.contracts.sync.RwLock as lock
use Rattle.std.proofs.alloc.Global.TheSendSync as global
use Rattle.std.proofs.sync.RwLock.TheSendSync as locked
use Rattle.crossbeam_utils.specs.contracts.cache_padded.CachePadded as padded
use Rattle.crossbeam_utils.proofs.cache_padded.CachePadded.TheSendSync as padding
use Rattle.far_store.specs.declared.store.FarTickets.{Ghosts as Tickets}
use Rattle.far_frame.proofs.frame.Frame.TheSendSync as frame
use Rattle.far_sessions.specs.declared.law.PlanTag.{Ghosts as PlanTags}
use Rattle.far_sessions.specs.declared.stripe_cell.CellsTag.{Ghosts as CellsTags}
use Rattle.far_sessions.proofs.cells.Cells.TheSendSync as cells
use Rattle.far_sessions.proofs.keeper.Keeper.TheSendSync as keeper
use Rattle.far_shared.specs.declared.stripe.TableTag.{Ghosts as TableTags}
use Rattle.far_shared.specs.contracts.stripe.Stripe as stripe
use Rattle.far_shared.proofs.shared.Count.TheSendSync as count
use Rattle.far_shared.specs.contracts.shared.Shared as shared

-- ---- a struct may be sent or shared if its fields may
struct_sends : (T : declared.Declared) → AllSend (declared.fields T) → IsSend (declared.row T)
struct_sends T s = recorded_send (Struct (declared.shape T)) T.D T.to T.to_one (struct_send (declared.shape T) s)

struct_syncs : (T : declared.Declared) → AllSync (declared.fields T) → IsSync (declared.row T)
struct_syncs T s = recorded_sync (Struct (declared.shape T)) T.D T.to T.to_one (struct_sync (declared.shape T) s)

-- ---- four tables under their locks
module _ (N B S T : RattleType) (b : CellsTags B.Denot) (n : PlanTags N.Denot) (at : TableTags B.Denot) (g : Tickets S.Denot T.Denot) where
  pub stripe_send : (I : RattleType) → IsSend T → IsSend (stripe.the_row N B S I T n at b g)
  stripe_send I t = view_send (stripe.TheInside.the_row N B S I T n at b g) _ _ _ _ (struct_sends (stripe.TheInside.the_type N B S I T n at b g) (frame.the_send S T g t, (keeper.the_send N B I n b, tt)))

  pub stripe_sync : (I : RattleType) → IsSync T → IsSync (stripe.the_row N B S I T n at b g)
  stripe_sync I t = view_sync (stripe.TheInside.the_row N B S I T n at b g) _ _ _ _ (struct_syncs (stripe.TheInside.the_type N B S I T n at b g) (frame.the_sync S T g t, (keeper.the_sync N B I n b, tt)))

  lock_sync : (I : RattleType) → IsSend T → IsSync T → IsSync (lock.the_row (stripe.the_row N B S I T n at b g))
  lock_sync I s t = locked.the_sync (stripe.the_row N B S I T n at b g) (stripe_send I s) (stripe_sync I t)

  padded_sync : (I : RattleType) → IsSend T → IsSync T → IsSync (padded.the_field (lock.the_row (stripe.the_row N B S I T n at b g))).row
  padded_sync I s t = padding.the_field_sync (lock.the_row (stripe.the_row N B S I T n at b g)) (lock_sync I s t)

  pub shared_sync : IsSend T → IsSync T → IsSync (shared.the_row N B S T n b at g)
  shared_sync s t = struct_syncs (shared.the_type N B S T n b at g)
      (global.the_field_sync, (padded_sync (number 0) s t, (padded_sync (number 1) s t, (padded_sync (number 2) s t, (padded_sync (number 3) s t, (cells.the_field_sync N B b n, (count.the_field_sync N n, tt)))))))
