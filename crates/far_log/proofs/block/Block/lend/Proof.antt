-- `lend` returns the borrow of `slice_mut` under another contract: at most `most` elements of the final list are written to the block.
-- The borrow checker does not follow a slice that a call got from another call, so this proof follows the code by hand.
use mathlib.Core.Path.{◌≡◌, refl, sym, ap, ◌∙◌}
use Prim.Native.Nat.{ℕ, ◌-◌, ◌≤◌}
use native.Mathlib.Omega.{arith}
use mathlib.Core.List.{List, [], ◌∷◌}
use lib.ListN.{length, take, drop as drop_list, length-take}
use seplogic.Ra.Ura.{Ura}
use mir.Syntax.{named, w64, a_type}
use mir.MapTy.{inst_fn}
use mir.Val.{Val, vptr, vint}
use base.Logic.{SProp, ent, sep, ex, emp, guard, id⊢}
use base.Stored.{coded_list}
use base.Fml.{Lft, GName, Share, ftrue, flft, fobs, fbor}
use types.Logic.{Logic, sem}
use types.Mut.{open_ref}
use types.Follow.{takes_part}
use types.SemTy.{cells, Arr, Body}
use contract.BorrowLft.{◌⊑◌}
use contract.Monad.{fact, fact_i}
use contract.Running.{tables}
use types.Kit.{Item, ‵, ◌⊛◌, raw, given, some, later, ◌$◌, ◌∵◌, !, qed, move, keep, drop, split, split3, join, learn, check, rewrite, fsplit, fsplit3, fjoin, feq_l, feq_i, use0, use1, use2, await, pick, suffices, frame, updating, group, now, show, done}
use types.Run.{stop, addr, and_then, no_more, returns, enter}
use types.ByLocal.{alloc_all, pass_all, free_all, look_at, get, through, sets, lands_as}
use denote.Array.{Array}
use denote.Builtin.{usize}
use denote.Exit.{yes, no}
use denote.Follow.{follows, follows_then}
use denote.FollowSlice.{heres_id, slice_of}
use denote.Memory.{mem}
use denote.Param.{param, layouts}
use denote.Plain.{uint_vals, uint_Tells}
use denote.RattleType.{RattleType, owns}
use denote.Ref.{MutBor, MutRef, mut_vals, mut_Tells}
use denote.Shadow.{pure_l}
use denote.Signature.{plain, mut_ref_to}
use denote.Slice.{MutSlice, Room, room, slice_val, mut_slice_vals}
use denote.Steps.{nothing, heard, only}
use denote.Triple.Call.{calls_at}
use denote.Triple.Clauses.{lasts}
use denote.Triple.Spec.{triple_of}
use denote.Triple.Table.{framed}
use denote.Triple.Walked.{says, Stays, stay_dropped, walk_of, ends_at, Goes-dropped, Goes-spent_ref}
use Rattle.std.proofs.raw_atomic.Walks.{proved}
use Rattle.std.proofs.lemmas.List.{take_all}
use Rattle.far_log.specs.Lending.{with_list_from}
use Rattle.far_log.specs.contracts.block.Block.{the_row}
use Rattle.far_log.specs.contracts.block.Block.slice_mut as G
use Rattle.far_log.proofs.block.Block.slice_mut.Met.{met}
use Rattle.far_log.specs.contracts.block.Block.lend as F
use Rattle.far_log.specs.contracts.block.Block.lend.Key.{name as #self}
use Rattle.far_log.proofs.block.Block.lend.Statement.{statement}
use Rattle.far_log.proofs.block.Block.lend.Code as code

-- a list as long as the slice has no elements after its first `most`
module _ {M : Type 1} {𝓤 : Ura M} (𝓛 : Logic 𝓤) (κ : Lft) (q : Share) (R : RattleType) (r : MutBor (List R.Denot)) (most : ℕ) (le : length r.now ≤ most) where
  open 𝓛 use {H, A}

  abbrev b : ℕ
  b = r.ref_ptr.0

  abbrev o : ℕ
  o = r.ref_ptr.1

  abbrev xs : List R.Denot
  xs = r.now

  abbrev γ : GName
  γ = r.ghost_name

  -- the slice under a new name, the token, and the final list of the old slice
  abbrev Lent : GName → SProp 𝓤
  Lent δ = sep 𝓤 (sem 𝓛 ((MutSlice (named 0) κ R).own_val (record { ref_ptr = (b, o); ghost_name = δ; now = xs }) (slice_val (b, o) (length xs) ∷ []))) (sep 𝓤 (A.lft κ q) (sem 𝓛 (follows (Array R 0) (Array R 0) γ δ (take most))))

  abbrev lent : GName → Item 𝓤
  lent δ = ‵ ((MutSlice (named 0) κ R).own_val (record { ref_ptr = (b, o); ghost_name = δ; now = xs }) (slice_val (b, o) (length xs) ∷ [])) ⊛ ‵ (flft κ q) ⊛ ‵ (follows (Array R 0) (Array R 0) γ δ (take most))

  put : (ws : List R.Denot) → ent 𝓤 (sep 𝓤 (sem 𝓛 ((Arr (mem R) (length xs)).own_at ws b o)) (emp 𝓤)) (sem 𝓛 ((Arr (mem R) (length xs)).own_at (take most ws) b o))
  put ws = qed 𝓛 (‵ ((Arr (mem R) (length xs)).own_at ws b o) ∷ raw (emp 𝓤) ∷ []) ∵ fsplit ! $ feq_l ! (λ e.
      let whole : take most ws ≡ ws = take_all most ws (omega (arith, e, le)) in
      rewrite ! 0 (λ (l : List R.Denot). ‵ (cells (mem R) l b o)) (sym whole) refl $
      feq_i ! ℕ (length (take most ws)) (length xs) (ap (λ (l : List R.Denot). length l) whole ∙ e) $ fjoin ! $ keep ! (0 ∷ []) $ done !)

  relends : (vs : List Val)
      → ent 𝓤 (sep 𝓤 (sem 𝓛 ((MutSlice (named 0) κ R).own_val r vs)) (A.lft κ q)) (H.⇛ (guard 𝓤 ((vs ≡ mut_slice_vals r) × Room R (length xs)) (ex 𝓤 Lent)))
  relends vs = qed 𝓛 (‵ ((MutSlice (named 0) κ R).own_val r vs) ∷ ‵ (flft κ q) ∷ []) ∵ updating ! $ fsplit3 ! $ fsplit ! $ feq_l ! (λ e. pure_l ! (room R (length xs)) (λ rm.
      rewrite ! 0 (λ (l : List R.Denot). ‵ (fobs γ ((coded_list R.coded).code l))) (heres_id R xs) refl $ open_ref ! tt (Arr (mem R) (length xs)) {b = b} {o = o} $ fsplit ! $ drop ! $
      feq_i ! ℕ (length xs) (length xs) refl $ fjoin ! $ nothing ! $ move ! (2 ∷ 3 ∷ 4 ∷ 1 ∷ 0 ∷ []) $ group ! 5 $
      use1 𝓛 (later (some (λ (δ : GName). ‵ (fobs δ ((coded_list R.coded).code xs)) ⊛ ‵ (fbor κ (Body (Arr (mem R) (length xs)) b o δ)) ⊛ ‵ (flft κ q) ⊛ ‵ (follows (Array R 0) (Array R 0) γ δ (take most)))))
      (takes_part 𝓛 (Arr (mem R) (length xs)) (Arr (mem R) (length xs)) (take most) κ q b o b o γ (emp 𝓤) put ((coded_list R.coded).code xs) ((coded_list R.coded).code xs) xs) $ await ! tt $ pick ! (λ δ. split3 ! $
      use2 𝓛 (‵ ((MutSlice (named 0) κ R).own_val (record { ref_ptr = (b, o); ghost_name = δ; now = xs }) (slice_val (b, o) (length xs) ∷ []))) (slice_of 𝓛 R (named 0) κ b o δ xs rm) $ now ! $ check ! (e, rm) $ show ! Lent δ $ done !)))

pub lend_spec : {M : Type 1} → statement M
lend_spec 𝓤 𝓛 𝓜 𝓡 wired X L =
    let inst = layouts (a_type ∷ []) (X, tt) in let fn = inst_fn inst code.function in let R : RattleType = param 0 X in let B : RattleType = the_row R in
    let En = F.ended X in let c = F.clauses X 𝓛 𝓜.mem 𝓡.returns in let 𝓣 = tables 𝓤 𝓛.H 𝓜 𝓡 𝓡.env in
    let hs : Stays En.signature.params En.kept = (stay_dropped (mut_ref_to (0 ∷ []) tt (plain (λ _. B))) no, (stay_dropped (plain (λ _. usize)) yes, (stay_dropped (plain (λ _. usize)) yes, (stay_dropped (plain (λ _. usize)) yes, tt)))) in
    let goes = Goes-dropped 𝓛 2 (plain (λ _. usize)) yes (λ κs x f. refl) in
    proved 𝓛 En hs c 𝓜 𝓡 (Goes-spent_ref 𝓛 2 (0 ∷ []) tt (plain (λ _. B)), (goes, (goes, (goes, tt)))) (#self inst) fn (code.unfolded 𝓤 𝓛.H 𝓜 𝓡 wired (X, tt))
    (λ κs. (mut_vals, (uint_vals w64, (uint_vals w64, (uint_vals w64, tt))))) (λ κs. (mut_Tells (named 0) κs.0 B, (uint_Tells w64, (uint_Tells w64, (uint_Tells w64, tt))))) (λ κs qs bounds a g are.
    let κ = κs.0 in let κT = κs.1.0 in let q = qs.0 in let qT = qs.1.0 in let s = a.0 in let i = a.1.0 in let j = a.1.1.0 in let m = a.1.1.1.0 in
    let vi = vint w64 i ∷ [] in let vj = vint w64 j ∷ [] in let vm = vint w64 m ∷ [] in
    let y : (walk_of 𝓛 En hs c).Ghost = ((κs, qs, bounds, a, (mut_vals s, (vi, (vj, (vm, tt))))), g) in
    qed 𝓛 (((‵ (flft κ q) ⊛ ‵ (flft κT qT) ⊛ ‵ ftrue) ⊛ ‵ (owns (MutRef (named 0) κ B ∷ usize ∷ usize ∷ usize ∷ []) a (mut_vals s, (vi, (vj, (vm, tt)))))) ∷ (raw (fact 𝓤 (κT ⊑ X.lives)) ⊛ raw (fact 𝓤 (i ≤ j)) ⊛ raw (fact 𝓤 (j ≤ s.now.items.len)) ⊛ raw (fact 𝓤 (j - i ≤ m))) ∷ []) ∵
    move ! (1 ∷ []) $ split ! $ heard ! _ (λ lives. split ! $ heard ! _ (λ ordered. split ! $ heard ! _ (λ within. heard ! _ (λ fits. split ! $
    -- [the tokens; what the parameters own]
    move ! (1 ∷ []) $ fsplit ! $ move ! (1 ∷ []) $ fsplit ! $ move ! (1 ∷ []) $ fsplit ! $ move ! (1 ∷ []) $ drop ! $
    nothing ! $ move ! (1 ∷ 0 ∷ []) $ fjoin ! $ move ! (1 ∷ 0 ∷ []) $ fjoin ! $ move ! (1 ∷ 0 ∷ []) $ fjoin ! $ move ! (1 ∷ 0 ∷ []) $ join ! $
    let T = triple_of 𝓛 (G.signature X) (G.spec X 𝓛 𝓜.mem 𝓡.returns) in
    let z : T.Ghost = ((κs, qs, bounds, (s, (i, (j, tt))), (mut_vals s, (vi, (vj, tt)))), tt) in
    use0 𝓛 (raw (fact 𝓤 (j ≤ s.now.items.len))) (fact_i 𝓤 _ (emp 𝓤) within) $ use0 𝓛 (raw (fact 𝓤 (i ≤ j))) (fact_i 𝓤 _ (emp 𝓤) ordered) $ join ! $
    use0 𝓛 (raw (fact 𝓤 (κT ⊑ X.lives))) (fact_i 𝓤 _ (emp 𝓤) lives) $ join ! $ move ! (1 ∷ 0 ∷ []) $ join ! $ use1 𝓛 (raw (T.pre z)) (id⊢ 𝓤 (T.pre z)) $
    enter ! 𝓣.C 𝓣.Λ fn (vptr s.ref_ptr.0 s.ref_ptr.1 ∷ vint w64 i ∷ vint w64 j ∷ vint w64 m ∷ []) _ $
    alloc_all ! (λ l. pass_all ! refl ((tt, tt), ((tt, record { fits = are.1.0.1 }), ((tt, record { fits = are.1.1.0.1 }), ((tt, record { fits = are.1.1.1.0.1 }), tt)))) $
    sets ! (addr ! (through ! refl (stop !))) refl (tt, tt) $
    calls_at ! (framed 𝓤 𝓛.H 𝓜 𝓣) T (met 𝓤 𝓛 𝓜 𝓡 (code.calls-far_log::block::Block::slice_mut 𝓡.env wired) X L) z
    (and_then ! (get ! refl) (and_then ! (get ! refl) (and_then ! (get ! refl) (no_more !)))) (λ v.
    use1 𝓛 (later (some (λ (r : MutBor (List R.Denot)). ((‵ (flft κ q) ⊛ ‵ (flft κT qT) ⊛ ‵ ftrue) ⊛ ‵ ((MutSlice (named 0) κ R).own_val r (v ∷ []))) ⊛
    some (λ (ws : Unit {0} × (Unit {0} × (Unit {0} × Unit {0}))). ‵ (lasts (G.ended X) κs (s, (i, (j, tt))) ws) ⊛ ‵ (follows B (Array R 0) s.ghost_name r.ghost_name (with_list_from s.now i)) ⊛ raw (fact 𝓤 (r.now ≡ take (j - i) (drop_list i s.now.items.items))))))) (id⊢ 𝓤 _) $
    await ! tt $ pick ! (λ r. split ! $ split ! $ move ! (2 ∷ []) $ pick ! (λ ws. split3 ! $ drop ! $ move ! (1 ∷ []) $ heard ! _ (λ value.
    -- [what the block follows; the tokens; the slice]
    let le : length r.now ≤ m = omega (arith, fits, ap (λ (l : List R.Denot). length l) value, length-take (j - i) (drop_list i s.now.items.items)) in
    move ! (1 ∷ []) $ split ! $ move ! (3 ∷ 0 ∷ []) $
    use2 𝓛 (later (given ((v ∷ [] ≡ mut_slice_vals r) × Room R (length r.now)) (some (lent 𝓛 κ q R r m le)))) (relends 𝓛 κ q R r m le (v ∷ [])) $ await ! tt $ learn ! (λ held. pick ! (λ δ. split3 ! $
    -- [the slice; the token; what it follows; the other token; what the block follows]
    move ! (4 ∷ 2 ∷ []) $ use2 𝓛 (‵ (follows B (Array R 0) s.ghost_name δ (λ ws. with_list_from s.now i (take m ws)))) (follows_then 𝓛 B (Array R 0) (Array R 0) (with_list_from s.now i) (take m) s.ghost_name r.ghost_name δ) $
    lands_as ! (ap only held.0) refl (tt, (tt, (record { fits = held.1.0 }, tt))) $
    returns ! (look_at ! 0 refl) $ free_all ! refl $ keep ! (1 ∷ 2 ∷ 0 ∷ 3 ∷ []) $
    suffices ! _ (ends_at 𝓛 En hs c y (slice_val r.ref_ptr (length r.now)) (record { ref_ptr = r.ref_ptr; ghost_name = δ; now = r.now }) (tt, (tt, (tt, (tt, tt)))) (tt, (tt, (tt, (tt, tt))))) $
    nothing ! $ nothing ! $ fjoin ! $ nothing ! $ fjoin ! $ nothing ! $ fjoin ! $ nothing ! $ fjoin ! $ join ! $ move ! (1 ∷ 3 ∷ []) $ join ! $ join ! $ frame ! $ says ! value $ done !))))))))))))
