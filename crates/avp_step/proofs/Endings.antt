-- Where runs to the end stand.
use Rattle.std.proofs.Common.{◌≡◌, ◌≤◌, ◌+◌, ℕ, Bool, false, List, [], ◌∷◌, ◌++◌, length, map, refl, sym, ap, ◌∙◌, subst, arith, length-append}
use Rattle.std.proofs.lemmas.List.{append-nil, length-map}
use Rattle.std.specs.Borrow.{Bor}
use Rattle.avp_lists.specs.History.{History, present, settled, state_at}
use Rattle.avp_lists.specs.declared.lists.State.{State}
use Rattle.avp_dict.specs.Dictionary.{Dictionary}
use Rattle.avp_patterns.specs.Patterns.{Written}
use Rattle.avp_unlang.specs.CaptureUse.{uses_captures}
use Rattle.avp_unlang.specs.Captures.{no_captures}
use Rattle.avp_unlang.specs.Meaning.{meaning_of}
use Rattle.avp_unlang.specs.Sizes.{size_of}
use Rattle.avp_unlang.specs.declared.codes.Code.TheVariants as code
use Rattle.avp_unlang.specs.declared.tree.Statement.{Statement}
use Rattle.avp_step.specs.Trace.{Step, block_steps, end_of, entry_in, first_point}
use Rattle.avp_step.specs.declared.frames.Frame.TheVariants.{Statements}
use Rattle.avp_step.specs.declared.labels.Label.TheVariants as label
use Rattle.avp_step.specs.declared.marks.Mark.{Mark}
use Rattle.avp_step.specs.internal.Courses.{Course, IsAlike, IsMade, IsPassed, IsReady, coming, ending, evaluating, evaluating_of, point_of, standing}
use Rattle.avp_step.specs.internal.Frames.{rest}
use Rattle.avp_step.specs.internal.Held.{last_of, nowhere}
use Rattle.avp_step.proofs.CaptureFreeTraces.{kept_trace}
use Rattle.avp_step.proofs.Courses.{states_added}
use Rattle.avp_step.proofs.LastSteps.{last_of_steps, trace_end}
use Rattle.avp_step.proofs.TraceSizes.{trace_size}

pub alike_after : (a b c : Course) → IsAlike a b → IsAlike b c → IsAlike a c
alike_after a b c first second = record {
  dictionary = second.dictionary ∙ first.dictionary;
  patterns = second.patterns ∙ first.patterns;
  keeps = second.keeps ∙ first.keeps;
}

module _ (last : Mark) (m m1 : Course) where
  -- a step that was made leaves the run ready for the others, which end where they did
  module _ (mark : Mark) (step : IsMade last m mark m1) where
    pub made_ready : IsReady last m → IsReady mark m1
    made_ready ready =
        let added = states_added m.history m1.history (present m1.history) ready.at_last step.history in
        record {
          at_last = omega (arith, ap length added, length-append m.history.states (present m1.history ∷ []), ap (λ (h : History). h.place) step.history, ready.at_last);
          room = omega (arith, ap length step.first, ap (λ (h : History). h.place) step.history, step.reach, ready.room);
        }

    pub made_ending : ending mark m1 ≡ ending last m
    made_ending = sym (ap (λ ts. (end_of (standing last m) ts).outcome) step.first)

  -- where nothing is to come the run has ended
  pub over_ending : IsPassed last m m1 → m1.frames ≡ [] → (standing last m1).outcome ≡ ending last m
  over_ending passed none =
      let over : coming m (standing last m) ≡ [] = sym passed.same ∙ ap (λ fs. rest m1.dictionary (evaluating m1) (state_at m1.history) fs (standing last m)) none in
      ap (λ (h : History). (point_of last (present h) m.captures).outcome) passed.kept.history
      ∙ sym (ap (λ ts. (end_of (standing last m) ts).outcome) over)

-- ---- from the start

abbrev pub START : Mark
START = record { label = label.Start; code = code.Ok; stopped = false }

steps_end : (d : Dictionary) (keeps : Bool) (ss : List Statement) (s : State) → (keeps ≡ false → uses_captures ss ≡ false) → (end_of (first_point s) (block_steps d (evaluating_of keeps d) ss (first_point s) ++ [])).outcome ≡ meaning_of d ss s code.Ok
steps_end d keeps ss s free =
    let steps = block_steps d (evaluating_of keeps d) ss (first_point s) in
    ap (λ ts. (end_of (first_point s) ts).outcome) (append-nil steps)
    ∙ sym (last_of_steps (first_point s) steps)
    ∙ ap (last_of nowhere) (kept_trace d ss s keeps free)
    ∙ trace_end d ss s nowhere

module _ (d : Dictionary) (ps : List Written) (keeps : Bool) (ss : Bor (List Statement)) (h : History) (m : Course) (reach : ℕ)
    (is : m ≡ record { dictionary = d; patterns = ps; keeps = keeps; captures = no_captures; history = settled h; reach = reach; frames = Statements ss ∷ [] }) where
  -- a run at its start has room for its steps
  pub start_ready : (size : ℕ) → size ≡ size_of ss.now → size ≤ m.reach → IsReady START m
  start_ready size count room =
      let steps = block_steps d (evaluating_of keeps d) ss.now (first_point (present h)) in
      let bound = trace_size d (evaluating_of keeps d) ss.now (present h) in
      let enough : size ≤ reach = omega (arith, room, ap (λ (c : Course). c.reach) is) in
      subst (λ (c : Course). IsReady START c) (sym is) (record {
        at_last = refl;
        room = omega (arith, bound, count, enough, length-map steps entry_in, ap length (append-nil steps));
      })

  -- and ends where the policy means
  pub start_ending : (keeps ≡ false → uses_captures ss.now ≡ false) → ending START m ≡ meaning_of d ss.now (present h) code.Ok
  start_ending free = ap (ending START) is ∙ steps_end d keeps ss.now (present h) free
