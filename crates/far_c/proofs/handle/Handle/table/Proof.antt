-- A handle with a null pointer lends nothing. Any other lends its table, and ends with what the borrow leaves in it.
use mathlib.Core.Path.{◌≡◌, refl, sym, ap, subst}
use Prim.Native.Nat.{ℕ}
use lib.Dec.{lit<}
use mathlib.Core.List.{List, [], ◌∷◌, ◌++◌}
use seplogic.Ra.Ura.{Ura}
use base.Fraction.{full_share}
use mir.Syntax.{named}
use mir.Val.{Val, vptr, vstruct, vcons, vnil, of_list}
use mir.Raw.{raw as bare}
use base.Logic.{SProp, ent, emp, sep, guard, guard_i, id⊢}
use base.Fml.{Lft, GName, Share, Fml, ftrue, flft, fobs, fres, fsep}
use prog.Memory.{Memory}
use prog.Routine.{Routine}
use prog.Wp.{Env, Calls, Loops, WpFn}
use types.Logic.{Logic, sem}
use types.Match.{live}
use contract.Monad.{Fun, fact_use}
use contract.Running.{tables}
use types.Kit.{‵, raw, ◌⊛◌, some, later, given, at_ret, ◌$◌, ◌∵◌, !, qed, by, move, keep, drop, use0, use1, split, join, pick, learn, fsplit, fsplit3, fjoin, fpick, fpack, feq_l, feq_i, await, rewrite, suffices, frame, group, done}
use types.Part.{whole, sub, look_in, agg}
use types.Run.{stop, fld, load, lit, bin, of_opd, no_more, and_then, first, blocks, branches, skips, exec, returns, returns_within, enter, addr}
use types.ByLocal.{alloc_all, pass_all, free_all, look_at, get, through, sets, sets_last, env}
use denote.RattleType.{Valss, owns}
use denote.Builtin.{RawPtr}
use denote.Memory.{part_at, mem, cell_at, part_of}
use denote.RawPtr.{Ptr, block_ptr, null_ptr, ptr_val, Testable, tests_null}
use denote.Ref.{MutBor, MutRef, mut_vals, mut_Tells}
use denote.Signature.{plain, mut_ref_to}
use denote.Steps.{nothing, opens, closes}
use denote.Struct.Struct.{within}
use denote.Struct.Owning.{shape, to}
use denote.Follow.{follows, follows_by, Part, lends_Part}
use denote.Exit.{no}
use denote.Triple.Entry.{on_entry}
use denote.Triple.Walked.{says, Stays, stay_dropped, walk_of, ends_at, Goes-spent_ref}
use Rattle.std.proofs.raw_atomic.Walks.{proved}
use Rattle.std.proofs.alloc.Calls.{token, handle_tells}
use Rattle.std.proofs.option.Made.{Some-of, none_of}
use Rattle.std.proofs.GlobalToken.{dealloc_token-Testable}
use Rattle.std.proofs.BoxSteps.Form.{D, B, R, τ, word, handle}
use Rattle.std.proofs.BoxSteps.Steps.{box_out, box_in}
use Rattle.std.specs.Prelude.{Option, Some, None}
use Rattle.std.specs.Global.{Global}
use Rattle.std.specs.contracts.alloc.Global as Heap
use Rattle.std.specs.contracts.option.Option as OP
use Rattle.far_c.proofs.Steps.{E}
use Rattle.far_c.specs.TableState.{TableState}
use Rattle.far_c.specs.declared.handle.Handle.{Handle}
use Rattle.far_c.specs.contracts.handle.Handle as Handle-type
use Rattle.far_c.specs.contracts.handle.Handle.{the_row as Hd}
use Rattle.far_c.specs.contracts.table.Table.{the_row as Pl}
use Rattle.far_c.specs.Lending.{with_table}
use Rattle.far_c.specs.contracts.handle.Handle.table as F
use Rattle.far_c.specs.contracts.handle.Handle.table.Key.{name as #self}
use Rattle.far_c.proofs.handle.Handle.table.Statement as stated
use Rattle.far_c.proofs.handle.Handle.table.Code as code

abbrev stayed : Stays (F.ended).signature.params (F.ended).kept
stayed = (stay_dropped (mut_ref_to (0 ∷ []) tt (plain (λ _. Hd))) no, tt)

module _ {M : Type 1} {𝓤 : Ura M} (𝓛 : Logic 𝓤) (at_mem : Memory → SProp 𝓤) (run : Routine → Fun 𝓤) (κ : Lft) (q : Share) (rb ro : ℕ) (γ : GName) (at : Ptr) (alloc : Global) where
  open 𝓛 use {H, A}

  abbrev of : Option TableState → Handle
  of o = record { at = at; alloc = alloc; table = o }

  abbrev ref : Option TableState → MutBor Handle
  ref o = record { ref_ptr = (rb, ro); ghost_name = γ; now = of o }

  abbrev bound : Option TableState → (walk_of 𝓛 F.ended stayed (F.clauses 𝓛 at_mem run)).Ghost
  bound o = (((κ, tt), (q, tt), tt, (ref o, tt), (vptr rb ro ∷ [], tt)), tt)

  abbrev Post : Option TableState → Val → SProp 𝓤
  Post o = (walk_of 𝓛 F.ended stayed (F.clauses 𝓛 at_mem run)).post (bound o)

  abbrev Lent : denote.RattleType.RattleType
  Lent = MutRef (named 0) κ Pl

  -- the word of a handle with a null pointer
  abbrev null_word : Val → Val
  null_word hv = vstruct (vcons (ptr_val null_ptr) (vcons hv vnil))

  leaves : ent 𝓤 (sep 𝓤 (A.obs γ (Hd.coded.code (of None))) (A.lft κ q)) (Post None (live 0 (of_list [])))
  unfolding follows_by
  leaves =
      qed 𝓛 (‵ (fobs γ (Hd.coded.code (of None))) ∷ ‵ (flft κ q) ∷ []) ∵ use1 𝓛 (‵ (fres γ (Hd.coded.code (of None)))) (𝓛.names.obs-res γ (Hd.coded.code (of None))) $ move ! (1 ∷ []) $
      use0 𝓛 (‵ ((OP.the_row Lent).own_val None (live 0 (of_list []) ∷ []))) (none_of 𝓛 Lent) $
      suffices ! _ (ends_at 𝓛 F.ended stayed (F.clauses 𝓛 at_mem run) (bound None) (live 0 (of_list [])) None (tt, tt) (tt, tt)) $
      nothing ! $ nothing ! $ fjoin ! $ join ! $ nothing ! $ move ! (2 ∷ 0 ∷ []) $ join ! $ join ! $ frame ! $ says ! refl $ done !

  module _ (C : Calls 𝓤 H) (Λ : Loops 𝓤 H) where
    walk_closed : ent 𝓤 (on_entry 𝓛 (F.ended).signature (κ, tt) (q, tt) (ref None, tt) (vptr rb ro ∷ [], tt)) (WpFn 𝓤 H C Λ code.function (vptr rb ro ∷ []) (Post None))
    walk_closed =
        qed 𝓛 ((‵ (flft κ q) ⊛ ‵ ftrue) ∷ ‵ (owns (MutRef (named 0) κ Hd ∷ []) (ref None, tt) (vptr rb ro ∷ [], tt)) ∷ []) ∵
        enter ! C Λ code.function (vptr rb ro ∷ []) _ $
        alloc_all ! (λ l. pass_all ! refl ((tt, tt), tt) $
        let En : Env 𝓤 H = env (code.function).locals l in
        move ! (1 ∷ []) $ fsplit ! $ fsplit3 ! $ drop ! $ move ! (3 ∷ []) $ split ! $ move ! (2 ∷ 3 ∷ 0 ∷ []) $
        opens ! tt Hd {h = of None} rb ro (λ vs. move ! (1 ∷ []) $ fsplit ! $ fpick ! (λ vss. fsplit ! $ feq_l ! (λ ev. fsplit ! $ feq_l ! (λ ep. fsplit ! $ handle_tells E.al ! alloc vss.1.0 (λ hv ea fa.
        move ! (1 ∷ []) $ drop ! $ move ! (1 ∷ []) $ fpick ! (λ is_null. drop ! $
        let ws : vs ≡ null_word hv ∷ [] =
        subst (λ (p : Ptr). vs ≡ vstruct (of_list (ptr_val p ∷ hv ∷ [])) ∷ []) is_null
        (subst (λ (us : List Val). vs ≡ vstruct (of_list (ptr_val at ∷ (us ++ []))) ∷ []) ea (subst (λ (ps : List Val). vs ≡ vstruct (of_list (ps ++ (vss.1.0 ++ []))) ∷ []) ep ev)) in
        rewrite ! 1 (λ (us : List Val). ‵ (cell_at full_share Hd.mir us rb ro)) ws refl $
        -- [the allocator; the handle's word; the open borrow; obs; auth]
        sets ! (of_opd ! (load ! (through ! refl (fld ! refl (stop !))) (look_in ! 1 (sub ! 0 refl (whole !))))) refl (tt, record { fits = lit< tt }) $
        sets ! (bin ! (get ! refl) (lit ! tt) tt) refl (tt, tt) $
        first ! $ branches ! (get ! refl)
        (λ _. sets ! (agg ! (and_then ! (lit ! tt) (no_more !))) refl (tt, (record { fits = lit< tt }, tt)) $
        nothing ! $ fpack ! (at ≡ null_ptr) (λ _. ftrue) is_null $ nothing ! $ move ! (2 ∷ 0 ∷ []) $ fjoin ! $
        feq_i ! (List Val) (ptr_val null_ptr ∷ []) (ptr_val at ∷ []) (ap (λ (p : Ptr). ptr_val p ∷ []) (sym is_null)) $ fjoin ! $ feq_i ! (List Val) (null_word hv ∷ []) (null_word hv ∷ []) refl $ fjoin ! $
        fpack ! (Valss (RawPtr ∷ Heap.the_row ∷ [])) (within (shape Handle-type.the_type) (to Handle-type.the_type (of None)) (null_word hv ∷ [])) (ptr_val null_ptr ∷ [], (hv ∷ [], tt)) $ fjoin ! $
        move ! (1 ∷ 0 ∷ []) $ closes ! tt Hd (of None) (null_word hv ∷ []) rb ro $
        returns_within ! (Post None) refl (look_at ! 0 refl) $ free_all ! refl $ keep ! (0 ∷ 2 ∷ []) $ by ! leaves)
        (λ wrong. absurd wrong))))))))

  module _ (x : TableState) where
    abbrev h : Handle
    h = of (Some x)

    abbrev boxed : TableState → D E
    boxed w = record { ptr = at; alloc = alloc; value = w }

    module _ (b o : ℕ) (hv : Val) where
      abbrev Token : Fml
      Token = token E.al alloc (bare (τ E)) (block_ptr b o)

      tested : ent 𝓤 (sem 𝓛 Token) (guard 𝓤 (Testable (block_ptr b o)) (sem 𝓛 Token))
      tested = fact_use 𝓤 (Testable (block_ptr b o)) (dealloc_token-Testable 𝓛 alloc (bare (τ E)) (block_ptr b o)) (guard_i 𝓤 (Testable (block_ptr b o)) (sem 𝓛 Token))

      -- all of the handle but its table
      abbrev Rest : Fml
      Rest = fsep (fsep Token (handle E alloc hv)) (cell_at full_share Hd.mir (word E hv b o ∷ []) rb ro)

      back : at ≡ block_ptr b o → (w : TableState) → ent 𝓤 (sep 𝓤 (sem 𝓛 ((mem Pl).own_at w b o)) (sem 𝓛 Rest)) (sem 𝓛 ((mem Hd).own_at (with_table h w) rb ro))
      unfolding part_of
      back at_b w =
          qed 𝓛 (‵ (part_at (R E) full_share w b o) ∷ ‵ Rest ∷ []) ∵ move ! (1 ∷ []) $ fsplit ! $ fsplit ! $ move ! (3 ∷ []) $
          box_in E ! (boxed w) b o w at_b refl $ use1 𝓛 (‵ (Hd.own_val (with_table h w) (word E hv b o ∷ []))) (id⊢ 𝓤 _) $ move ! (1 ∷ 0 ∷ []) $ fjoin ! $
          fpack ! (List Val) (λ us. fsep (cell_at full_share Hd.mir us rb ro) (Hd.own_val (with_table h w) us)) (word E hv b o ∷ []) $ done !

      exits : (γ' : GName)
          → ent 𝓤 (sep 𝓤 (sem 𝓛 (Lent.own_val (record { ref_ptr = (b, o); ghost_name = γ'; now = x }) (vptr b o ∷ []))) (sep 𝓤 (A.lft κ q) (sem 𝓛 (follows Hd Pl γ γ' (with_table h))))) (Post (Some x) (live 1 (of_list (vptr b o ∷ []))))
      unfolding follows_by
      exits γ' =
          let r : MutBor TableState = record { ref_ptr = (b, o); ghost_name = γ'; now = x } in
          qed 𝓛 (‵ (Lent.own_val r (vptr b o ∷ [])) ∷ ‵ (flft κ q) ∷ ‵ (follows Hd Pl γ γ' (with_table h)) ∷ []) ∵
          use1 𝓛 (‵ ((OP.the_row Lent).own_val (Some r) (live 1 (of_list (vptr b o ∷ [])) ∷ []))) (Some-of 𝓛 Lent r (vptr b o)) $
          suffices ! _ (ends_at 𝓛 F.ended stayed (F.clauses 𝓛 at_mem run) (bound (Some x)) (live 1 (of_list (vptr b o ∷ []))) (Some r) (tt, tt) (tt, tt)) $
          nothing ! $ nothing ! $ fjoin ! $ join ! $ nothing ! $ move ! (2 ∷ 0 ∷ []) $ join ! $ join ! $ frame ! $ says ! refl $ done !

    module _ (C : Calls 𝓤 H) (Λ : Loops 𝓤 H) where
      walk_open : ent 𝓤 (on_entry 𝓛 (F.ended).signature (κ, tt) (q, tt) (ref (Some x), tt) (vptr rb ro ∷ [], tt)) (WpFn 𝓤 H C Λ code.function (vptr rb ro ∷ []) (Post (Some x)))
      walk_open =
          qed 𝓛 ((‵ (flft κ q) ⊛ ‵ ftrue) ∷ ‵ (owns (MutRef (named 0) κ Hd ∷ []) (ref (Some x), tt) (vptr rb ro ∷ [], tt)) ∷ []) ∵
          enter ! C Λ code.function (vptr rb ro ∷ []) _ $
          alloc_all ! (λ l. pass_all ! refl ((tt, tt), tt) $
          let En : Env 𝓤 H = env (code.function).locals l in
          move ! (1 ∷ []) $ fsplit ! $ fsplit3 ! $ drop ! $ move ! (3 ∷ []) $ split ! $ move ! (2 ∷ 3 ∷ 0 ∷ []) $
          opens ! tt Hd {h = h} rb ro (λ vs. move ! (1 ∷ []) $ use1 𝓛 (‵ ((B E).own_val (boxed x) vs)) (id⊢ 𝓤 _) $ box_out E ! (boxed x) vs (λ b o hv at_b ws fa.
          move ! (1 ∷ []) $ use1 𝓛 (given (Testable (block_ptr b o)) (‵ (Token b o hv))) (tested b o hv) $ learn ! (λ may.
          move ! (0 ∷ 2 ∷ []) $ fjoin ! $ move ! (1 ∷ []) $
          rewrite ! 2 (λ (us : List Val). ‵ (cell_at full_share Hd.mir us rb ro)) ws refl $
          -- [the table; the token and the allocator; the handle's word; the open borrow; obs; auth]
          sets ! (of_opd ! (load ! (through ! refl (fld ! refl (stop !))) (look_in ! 2 (sub ! 0 refl (whole !))))) refl (tt, tt) $
          sets ! (bin ! (get ! refl) (lit ! tt) (tests_null (block_ptr b o) may)) refl (tt, tt) $
          first ! $ branches ! (get ! refl) (λ wrong. absurd wrong)
          (λ _. skips ! $ exec ! C Λ En code.Mir.t-4 (at_ret En (Post (Some x))) $
          first ! $ blocks ! $
          sets ! (of_opd ! (load ! (through ! refl (fld ! refl (stop !))) (look_in ! 2 (sub ! 0 refl (whole !))))) refl (tt, tt) $
          sets ! (addr ! (through ! refl (stop !))) refl (tt, tt) $
          sets_last ! (agg ! (and_then ! (lit ! tt) (and_then ! (get ! refl) (no_more !)))) refl (tt, (record { fits = lit< tt }, (tt, tt))) $
          exec ! C Λ En code.Mir.t-5 (at_ret En (Post (Some x))) $
          sets ! (of_opd ! (get ! refl)) refl (tt, (record { fits = lit< tt }, (tt, tt))) $
          move ! (1 ∷ 2 ∷ []) $ fjoin ! $ move ! (2 ∷ 3 ∷ 4 ∷ 1 ∷ 0 ∷ []) $ group ! 5 $
          use1 𝓛 (later (some (λ (γ' : GName). raw (Part 𝓛 Hd Pl (with_table h) (named 0) κ q rb ro b o γ (sem 𝓛 (Rest b o hv)) (back b o hv at_b) x γ'))))
          (lends_Part 𝓛 Hd Pl (with_table h) (named 0) κ q rb ro b o γ (sem 𝓛 (Rest b o hv)) (back b o hv at_b) (Hd.coded.code h) (Hd.coded.code h) x) $ await ! tt $ pick ! (λ γ'.
          returns ! (look_at ! 0 refl) $ free_all ! refl $
          keep ! (0 ∷ []) $ by ! (exits b o hv γ')))))))

  at_each : (C : Calls 𝓤 H) (Λ : Loops 𝓤 H) (o : Option TableState)
      → ent 𝓤 (on_entry 𝓛 (F.ended).signature (κ, tt) (q, tt) (ref o, tt) (vptr rb ro ∷ [], tt)) (WpFn 𝓤 H C Λ code.function (vptr rb ro ∷ []) (Post o))
  at_each C Λ (Some x) = walk_open x C Λ
  at_each C Λ None = walk_closed C Λ

pub table_spec : {M : Type 1} → stated.statement M
table_spec 𝓤 𝓛 𝓜 𝓡 wired =
    let c = F.clauses 𝓛 𝓜.mem 𝓡.returns in let 𝓣 = tables 𝓤 𝓛.H 𝓜 𝓡 𝓡.env in
    proved 𝓛 F.ended stayed c 𝓜 𝓡 (Goes-spent_ref 𝓛 1 (0 ∷ []) tt (plain (λ _. Hd)), tt)
    #self code.function (code.unfolded 𝓤 𝓛.H 𝓜 𝓡 wired)
    (λ κs. (mut_vals, tt)) (λ κs. (mut_Tells (named 0) κs.0 Hd, tt)) (λ κs qs bounds a g are.
    let h = a.0.now in
    qed 𝓛 (raw (on_entry 𝓛 (F.ended).signature κs qs a (mut_vals a.0, tt)) ∷ raw (emp 𝓤) ∷ []) ∵ keep ! (0 ∷ []) $
    by ! (at_each 𝓛 𝓜.mem 𝓡.returns κs.0 qs.0 a.0.ref_ptr.0 a.0.ref_ptr.1 a.0.ghost_name h.at h.alloc 𝓣.C 𝓣.Λ h.table))
