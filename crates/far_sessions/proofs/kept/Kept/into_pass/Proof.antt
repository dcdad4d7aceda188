-- The pass comes out of the struct.
use Rattle.atomic_table.proofs.Names.{◌≡◌, ◌++◌, ◌∙◌, ap, List, [], ◌∷◌, refl, a_type, Val, vstruct, vcons, vnil, of_list, inst_fn, SProp, emp, ‵, raw, ◌⊛◌, ◌$◌, ◌∵◌, !, qed, by, move, keep, drop, split, fsplit, fsplit3, fjoin, fpick, use0, rewrite, stop, fld, of_opd, returns, enter, alloc_all, pass_all, free_all, look_at, get, get_in, sets, sub, whole, tables, no, RattleType, owns, types_at, plain, nothing, param, layouts, alive, Stays, stay_dropped, walk_of, fact, fact_i, Is, shows, peeks}
use Rattle.atomic_table.proofs.Walks.{proved, leaves}
use Rattle.far_sessions.proofs.Spent.{goes_blank}
use Rattle.atomic_table.proofs.Fields.{token_val, token_told}
use Rattle.atomic_table.specs.contracts.shared.Seat as seat
use Rattle.far_sessions.specs.contracts.kept.Kept as kept
use Rattle.far_sessions.specs.contracts.kept.Kept.into_pass.{ended, clauses}
use Rattle.far_sessions.specs.contracts.kept.Kept.into_pass.Key.{name as #self}
use Rattle.far_sessions.proofs.kept.Kept.into_pass.Statement.{statement}
use Rattle.far_sessions.proofs.kept.Kept.into_pass.Code as code

seat_told : (R W : RattleType) (d : (seat.the_row R W).Denot) (vs : List Val) → Is (seat.the_row R W) d vs → vs ≡ token_val ∷ []
seat_told R W d vs so = token_told R W vs so.0

kept_told : (R W : RattleType) (d : (kept.the_row R W).Denot) (vs : List Val) → Is (kept.the_row R W) d vs → vs ≡ vstruct (vcons token_val vnil) ∷ []
kept_told R W d vs so = let is = so.0 in is.1.0 ∙ ap (λ (ws : List Val). vstruct (of_list (ws ++ [])) ∷ []) (seat_told R W d.pass is.0.0 is.1.1.0)

pub into_pass_spec : {M : Type 1} → statement M
into_pass_spec 𝓤 𝓛 𝓜 𝓡 wired S V _ _ =
    let H = 𝓛.H in let 𝓣 = tables 𝓤 H 𝓜 𝓡 𝓡.env in let R : RattleType = param 0 S in let W : RattleType = param 1 V in let En = ended S V in let c = clauses S V 𝓛 𝓜.mem 𝓡.returns in
    let inst = layouts (a_type ∷ a_type ∷ []) (S, (V, tt)) in let fn = inst_fn inst code.function in let Lr : RattleType = seat.the_row R W in let Rr : RattleType = kept.the_row R W in
    let hs : Stays En.signature.params En.kept = (stay_dropped (plain (λ _. Rr)) no, tt) in
    proved 𝓛 En hs c 𝓜 𝓡 (goes_blank 𝓛 2 (plain (λ _. Rr)) no (λ κs x f. tt), tt) (#self inst) fn (code.unfolded 𝓤 H 𝓜 𝓡 wired (S, (V, tt)))
    (λ κs. ((λ x. vstruct (vcons token_val vnil) ∷ []), tt)) (λ κs. ((λ x vs so. kept_told R W x vs so), tt)) (λ κs qs bounds a gh are.
    let x : Lr.Denot = a.0.pass in let v : Val = token_val in let u : Val = vstruct (vcons token_val vnil) in
    let y : (walk_of 𝓛 En hs c).Ghost = ((κs, qs, bounds, a, (u ∷ [], tt)), gh) in let Post : Val → SProp 𝓤 = (walk_of 𝓛 En hs c).post y in
    qed 𝓛 ((raw (alive 𝓛 En.signature κs qs) ⊛ ‵ (owns (types_at En.signature.params κs) a y.0.4)) ∷ raw ((c κs a).requires gh) ∷ []) ∵
    split ! $ move ! (1 ∷ []) $ fsplit ! $ fsplit ! $ fpick ! (λ vss. fsplit3 ! $ drop ! $ peeks ! Lr (Is Lr) (shows 𝓛 Lr) x vss.0 (λ so.
    rewrite ! 0 (λ (ws : List Val). ‵ (Lr.own_val x ws)) (seat_told R W x vss.0 so) refl $ keep ! (0 ∷ 4 ∷ []) $
    enter ! 𝓣.C 𝓣.Λ fn (u ∷ []) Post $ alloc_all ! (λ l. pass_all ! refl ((tt, ((tt, tt), tt)), tt) $
    sets ! (of_opd ! (get_in ! (fld ! refl (stop !)) (sub ! 0 refl (whole !)))) refl (tt, (tt, tt)) $ sets ! (of_opd ! (get ! refl)) refl (tt, (tt, tt)) $
    use0 𝓛 (raw (fact 𝓤 (x ≡ x))) (fact_i 𝓤 (x ≡ x) (emp 𝓤) refl) $ nothing ! $ nothing ! $ fjoin ! $
    returns ! (look_at ! 0 refl) $ free_all ! refl $ keep ! (3 ∷ 0 ∷ 2 ∷ 1 ∷ []) $ by ! (leaves 𝓛 En hs c y v x ((tt, tt), tt) (tt, tt))))))
