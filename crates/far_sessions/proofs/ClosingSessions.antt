-- Sessions that a history has the entries of, and one more.
use Rattle.std.proofs.Common.{◌≡◌, ℕ, List, [], ◌∷◌, ◌++◌, subst}
use mathlib.Core.List.{IsPrefix}
use Rattle.far_sessions.specs.Histories.{by_session}
use Rattle.far_sessions.specs.declared.view.Entry.{Entry}
use Rattle.far_sessions.specs.Known.{Known, at, session_number}
use Rattle.far_sessions.specs.Closing.{IsSeenBy, SeenByAll}

all-push : (k : ℕ) (log : List Entry) (xs : List Known) (x : Known) → SeenByAll k log xs → IsSeenBy k log x → SeenByAll k log (xs ++ x ∷ [])
all-push k log [] x all one = (one, tt)
all-push k log (y ∷ xs) x all one = (all.0, all-push k log xs x all.1 one)

-- a session is taken in, whose number at this stripe is `by`, into a history that is as it was
pub all-taken : (k by : ℕ) (log now : List Entry) (xs : List Known) (y x : Known) → now ≡ log → y ≡ x → by ≡ session_number y → SeenByAll k log xs → IsPrefix (at y k).seen now → by_session by now ≡ (at y k).mine → SeenByAll k log (xs ++ x ∷ [])
all-taken k by log now xs y x same is number all seen own =
    let here : IsSeenBy k now y = record { seen = seen; own = subst (λ n. by_session n now ≡ (at y k).mine) number own } in
    all-push k log xs x all (subst (λ (s : Known). IsSeenBy k log s) is (subst (λ l. IsSeenBy k l y) same here))
