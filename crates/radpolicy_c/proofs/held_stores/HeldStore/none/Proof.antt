-- `none` keeps nothing at null.
use Rattle.std.proofs.Common.{◌≡◌, [], ◌∷◌, refl, lit<, Option, None}
use mir.Val.{Val}
use base.Logic.{SProp, emp}
use base.Fml.{ftrue}
use types.Kit.{‵, raw, ◌⊛◌, ◌$◌, ◌∵◌, !, qed, by, keep, split, use0}
use types.Run.{no_more, and_then, returns, enter, lit}
use types.ByLocal.{alloc_all, pass_all, free_all, look_at, sets}
use types.Part.{agg}
use contract.Monad.{fact, fact_i}
use contract.Running.{tables}
use denote.RattleType.{owns}
use denote.RawPtr.{null_ptr}
use denote.Signature.{types_at}
use denote.Steps.{nothing}
use denote.Triple.Walked.{Stays, walk_of}
use Rattle.std.proofs.raw_atomic.Walks.{proved_at, leaves}
use Rattle.avp_lists.specs.History.{History}
use Rattle.radpolicy_c.proofs.HeldStoreValues.{word, held_in}
use Rattle.radpolicy_c.specs.contracts.held_stores.HeldStore.none as f
use Rattle.radpolicy_c.specs.contracts.held_stores.HeldStore.none.Key.{name as #self}
use Rattle.radpolicy_c.proofs.held_stores.HeldStore.none.Statement.{statement}
use Rattle.radpolicy_c.proofs.held_stores.HeldStore.none.Code as code

pub none_spec : {M : Type 1} → statement M
none_spec 𝓤 𝓛 𝓜 𝓡 wired =
    let H = 𝓛.H in let 𝓣 = tables 𝓤 H 𝓜 𝓡 𝓡.env in let c = f.clauses 𝓛 𝓜.mem 𝓡.returns in let fn = code.function in
    let nothing_kept : Option History = None in let hs : Stays f.ended.signature.params f.ended.kept = tt in
    proved_at 𝓛 f.ended hs c 𝓜 𝓡 tt #self fn (code.unfolded 𝓤 H 𝓜 𝓡 wired) (λ z are.
    let Post : Val → SProp 𝓤 = (walk_of 𝓛 f.ended hs c).post z in
    qed 𝓛 ((‵ ftrue ⊛ ‵ (owns (types_at f.ended.signature.params tt) z.0.3 z.0.4)) ∷ raw ((c tt z.0.3).requires z.1) ∷ []) ∵ split ! $
    enter ! 𝓣.C 𝓣.Λ fn [] Post $ alloc_all ! (λ l. pass_all ! refl tt $
    sets ! (agg ! (and_then ! (lit ! tt) (no_more !))) refl (tt, (record { fits = lit< tt }, tt)) $
    -- [nothing, as what is at null; the tokens]
    nothing ! $ held_in ! null_ptr None $
    use0 𝓛 (raw (fact 𝓤 (nothing_kept ≡ None))) (fact_i 𝓤 (nothing_kept ≡ None) (emp 𝓤) refl) $ nothing ! $
    returns ! (look_at ! 0 refl) $ free_all ! refl $ keep ! (3 ∷ 0 ∷ 2 ∷ 1 ∷ []) $
    by ! (leaves 𝓛 f.ended hs c z (word null_ptr) (record { at = null_ptr; history = None }) tt tt)))
