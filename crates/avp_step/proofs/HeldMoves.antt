-- What a stepper keeps, over each of its moves.
use Rattle.std.proofs.Common.{◌≡◌, ℕ, zero, suc, ◌+◌, ◌-◌, ◌≤◌, ◌<◌, max, false, List, [], ◌∷◌, ◌++◌, length, map, Bool, get_or, refl, sym, ap, ◌∙◌, subst, cond, arith, append_assoc, length-append}
use Rattle.std.proofs.Math.Seq.{get_or-append_seam}
use Rattle.std.proofs.Math.ListN.{get_or-append}
use Rattle.std.proofs.lemmas.List.{append-nil, length-map}
use Rattle.std.proofs.lemmas.Bool.{lt-ltb, le-ltb}
use Rattle.avp_lists.specs.History.{History, at_place, present, settled, state_at}
use Rattle.avp_lists.specs.States.{empty_state}
use Rattle.avp_lists.specs.declared.lists.State.{State}
use Rattle.avp_patterns.specs.Patterns.{Written}
use Rattle.avp_unlang.specs.declared.tree.Statement.{Statement}
use Rattle.avp_step.specs.declared.labels.Moved.TheVariants.{To, AtEnd}
use Rattle.avp_step.specs.declared.marks.Mark.{Mark}
use Rattle.avp_unlang.specs.Captures.{no_captures}
use Rattle.avp_unlang.specs.CaptureUse.{uses_captures}
use Rattle.avp_unlang.specs.Evaluations.{evaluated}
use Rattle.avp_unlang.specs.Meaning.{Outcome}
use Rattle.avp_step.specs.Trace.{Entry, Step, block_steps, entry_in, first_point, start, trace_of}
use Rattle.avp_step.specs.internal.Courses.{Course, IsBeforeLine, IsMade, IsPassed, IsReady, coming, entry_of, evaluating, evaluating_of, point_of, standing}
use Rattle.avp_step.specs.internal.Frames.{rest}
use Rattle.avp_step.specs.Walk.{IsBeforeNewLine, IsLineLabel, IsWithin, Walk, entry, entry_at, moved_forward, reached, answer_of_forward}
use Rattle.avp_step.specs.internal.Held.{trace_from, walk_of, last_of, made, nowhere, point_after, point_at, IsHeld}
use Rattle.avp_step.proofs.CaptureFreeTraces.{kept_trace}
use Rattle.avp_step.proofs.TraceSizes.{trace_size}
use Rattle.avp_unlang.specs.Sizes.{size_of}
use Rattle.std.specs.Borrow.{Bor}
use Rattle.avp_step.specs.declared.frames.Frame.TheVariants.{Statements}
use Rattle.avp_step.specs.declared.labels.Label.TheVariants as label
use Rattle.avp_unlang.specs.declared.codes.Code.TheVariants as code
use Rattle.avp_dict.specs.Dictionary.{Dictionary}
use Rattle.avp_step.proofs.Courses.{states_added}

length_made : (ms : List Mark) (ss : List State) → length ss ≡ length ms → length (made ms ss) ≡ length ms
length_made [] ss e = refl
length_made (m ∷ ms) [] e = absurd (omega arith)
length_made (m ∷ ms) (s ∷ ss) e = let e' : length ss ≡ length ms = omega arith in omega (arith, length_made ms ss e')

made_at : (ms : List Mark) (ss : List State) (k : ℕ) (d : Entry) (m : Mark) (s : State) → length ss ≡ length ms → k < length ms → get_or (made ms ss) k d ≡ entry_of (get_or ms k m) (get_or ss k s)
made_at [] ss k d m s e h = absurd (omega arith)
made_at (n ∷ ms) [] k d m s e h = absurd (omega arith)
made_at (n ∷ ms) (t ∷ ss) zero d m s e h = refl
made_at (n ∷ ms) (t ∷ ss) (suc k) d m s e h = made_at ms ss k d m s (omega arith) (omega arith)

made_push : (ms : List Mark) (ss : List State) (m : Mark) (s : State) → length ss ≡ length ms → made (ms ++ m ∷ []) (ss ++ s ∷ []) ≡ made ms ss ++ entry_of m s ∷ []
made_push [] [] m s e = refl
made_push [] (t ∷ ss) m s e = absurd (omega arith)
made_push (n ∷ ms) [] m s e = absurd (omega arith)
made_push (n ∷ ms) (t ∷ ss) m s e = ap (λ es. entry_of n t ∷ es) (made_push ms ss m s (omega arith))

pub last_of_last : (o : Outcome) (es : List Entry) (k : ℕ) (d : Entry) → k + 1 ≡ length es → last_of o es ≡ (get_or es k d).outcome
last_of_last o [] k d h = absurd (omega arith)
last_of_last o (e ∷ []) zero d h = refl
last_of_last o (e ∷ []) (suc k) d h = absurd (omega arith)
last_of_last o (e ∷ f ∷ es) zero d h = absurd (omega arith)
last_of_last o (e ∷ f ∷ es) (suc k) d h = last_of_last e.outcome (f ∷ es) k d (omega arith)

last_of-append : (o : Outcome) (a b : List Entry) → last_of o (a ++ b) ≡ last_of (last_of o a) b
last_of-append o [] b = refl
last_of-append o (e ∷ es) b = last_of-append e.outcome es b

module _ (ss : List Statement) (m : Course) (ms : List Mark) (p : ℕ) (r : ℕ) (held : IsHeld ss m ms p r) where
  abbrev h : History
  h = m.history

  abbrev walk : Walk
  walk = walk_of ss m p

  abbrev before : List Entry
  before = made ms h.states

  -- the trace at a position whose step was made
  held_at : (k : ℕ) (x : Entry) (n : Mark) (s : State) → k < length ms → get_or (trace_from ss m) k x ≡ entry_of (get_or ms k n) (get_or h.states k s)
  held_at k x n s lt =
      let len : k < length before = omega (arith, length_made ms h.states held.each) in
      ap (λ es. get_or es k x) (sym held.trace) ∙ get_or-append _ _ x k len ∙ made_at ms h.states k x n s held.each lt

  -- the entry at the position
  held_entry : (n : Mark) → entry walk ≡ entry_of (get_or ms p n) (present h)
  held_entry n = held_at p (start empty_state) n empty_state held.within ∙ ap (λ k. entry_of (get_or ms p n) (get_or h.states k empty_state)) (sym held.place)

  pub held_mark : (n : Mark) → n ≡ get_or ms p n → entry_of n (present h) ≡ entry walk
  held_mark n is = ap (λ n. entry_of n (present h)) is ∙ sym (held_entry n)

  -- any mark serves as a default
  no_mark : Mark
  no_mark = record { label = (start empty_state).label; code = (start empty_state).outcome.code; stopped = false }

  -- the walk that it is shown as has these lists
  pub shown_state : (w : Walk) → walk ≡ w → present h ≡ (entry w).outcome.state
  shown_state w is = sym (ap (λ (e : Entry). e.outcome.state) (held_entry no_mark)) ∙ ap (λ w. (entry w).outcome.state) is

  pub held_within : IsWithin walk
  held_within = (
    omega (arith, held.within, held.each),
    omega (arith, held.within, held.each, length_made ms h.states held.each, ap length held.trace, length-append before (map entry_in (coming m (point_after before m)))),
  )

  -- where the run stands at the last position whose step was made
  held_standing : (n : Mark) → p + 1 ≡ length ms → point_after before m ≡ standing (get_or ms p n) m
  held_standing n last =
      let len : p + 1 ≡ length before = omega (arith, length_made ms h.states held.each) in
      ap (point_at m.captures)
      (last_of_last nowhere before p (start empty_state) len
      ∙ ap (λ (e : Entry). e.outcome) (made_at ms h.states p (start empty_state) n empty_state held.each held.within))
      ∙ ap (λ k. point_of (get_or ms p n) (get_or h.states k empty_state) m.captures) (sym held.place)

  module _ (last : Mark) (at_last : last ≡ get_or ms p last) (end' : p + 1 ≡ length ms) where
    -- the trace by the last mark
    frontier : before ++ map entry_in (coming m (standing last m)) ≡ trace_from ss m
    frontier =
        ap (λ o. before ++ map entry_in (coming m o)) (ap (λ n. standing n m) at_last ∙ sym (held_standing last end'))
        ∙ held.trace

    sizes : length (trace_from ss m) ≡ p + 1 + length (coming m (standing last m))
    sizes =
        omega (arith, length_made ms h.states held.each, ap length frontier, length-append before (map entry_in (coming m (standing last m))), length-map (coming m (standing last m)) entry_in)

    pub held_ready : IsReady last m
    held_ready = record { at_last = omega (arith, held.place, held.each); room = omega (arith, held.room_of_store, held.place, sizes) }

    -- the first of the other steps is at the next position
    next_at : (e : Step) (es : List Step) (x : Entry) → coming m (standing last m) ≡ e ∷ es → get_or (trace_from ss m) (p + 1) x ≡ entry_in e
    next_at e es x is =
        let at : length before ≡ p + 1 = omega (arith, length_made ms h.states held.each) in
        ap (λ l. get_or l (p + 1) x) (sym frontier ∙ ap (λ r. before ++ map entry_in r) is)
        ∙ ap (λ k. get_or (before ++ map entry_in (e ∷ es)) k x) (sym at)
        ∙ get_or-append_seam before (entry_in e) (map entry_in es) x

    next_within : (e : Step) (es : List Step) → coming m (standing last m) ≡ e ∷ es → p + 1 < length (trace_from ss m)
    next_within e es is = omega (arith, sizes, ap length is)

    pub refused_line : IsBeforeLine last m → IsBeforeNewLine walk
    refused_line b = (
      omega (arith, held.each, end'),
      subst (λ (e : Entry). IsLineLabel e.label) (sym (next_at b.first b.others (start empty_state) b.is)) b.line,
    )

    -- no step was made
    pub passed_held : (m1 : Course) → IsPassed last m m1 → IsHeld ss m1 ms p r
    passed_held m1 q =
        let stand : point_after (made ms m1.history.states) m1 ≡ standing last m =
        ap (λ (k : History). point_at m1.captures (last_of nowhere (made ms k.states))) q.kept.history
        ∙ ap (λ k. point_at k (last_of nowhere before)) q.kept.captures
        ∙ held_standing last end' ∙ ap (λ n. standing n m) (sym at_last) in
        let same : trace_from ss m1 ≡ trace_from ss m = ap (λ x. trace_of x ss (state_at m1.history 0)) q.kept.alike.dictionary ∙ ap (λ k. trace_of m.dictionary ss (state_at k 0)) q.kept.history in
        record {
          trace =
              ap (λ o. made ms m1.history.states ++ map entry_in (coming m1 o)) stand ∙ ap (λ es. made ms m1.history.states ++ map entry_in es) q.same
              ∙ ap (λ (k : History). made ms k.states ++ map entry_in (coming m (standing last m))) q.kept.history ∙ frontier ∙ sym same;
          each = ap (λ (k : History). length k.states) q.kept.history ∙ held.each;
          place = ap (λ (k : History). k.place) q.kept.history ∙ held.place;
          within = held.within;
          room_of_marks = omega (arith, held.room_of_marks, ap length same);
          room_of_store = omega (arith, held.room_of_store, ap length same, q.kept.reach);
        }

    pub passed_walk : (m1 : Course) → IsPassed last m m1 → walk_of ss m1 p ≡ walk
    passed_walk m1 q =
        ap (λ x. record walk { dictionary = x; trace = trace_of x ss (state_at m1.history 0); made = length m1.history.states - 1 }) q.kept.alike.dictionary
        ∙ ap (λ k. record walk { trace = trace_of m.dictionary ss (state_at k 0); made = length k.states - 1 }) q.kept.history

    -- the run is over
    pub over_after : (m1 : Course) → IsPassed last m m1 → m1.frames ≡ [] → (walk_of ss m1 p ≡ moved_forward walk) × (AtEnd ≡ answer_of_forward walk)
    over_after m1 q none =
        let over : coming m (standing last m) ≡ [] = sym q.same ∙ ap (λ fs. rest m1.dictionary (evaluating m1) (state_at m1.history) fs (standing last m)) none in
        let all : length (trace_from ss m) ≤ p + 1 = omega (arith, sizes, ap length over) in (
          passed_walk m1 q ∙ sym (ap (λ b. cond b (reached (p + 1) walk) walk) (le-ltb _ _ all)),
          sym (ap (λ b. cond b (To (entry_at walk (p + 1)).label) AtEnd) (le-ltb _ _ all)),
        )

    -- a step that was made
    module _ (mark : Mark) (m1 : Course) (step : IsMade last m mark m1) where
      added : m1.history.states ≡ h.states ++ present m1.history ∷ []
      added = states_added h m1.history (present m1.history) (omega (arith, held.each, held.place)) step.history

      same_trace : trace_from ss m1 ≡ trace_from ss m
      same_trace =
          let some : 0 < length h.states = omega (arith, held.each, held.within) in
          let first : state_at m1.history 0 ≡ state_at h 0 = ap (λ l. get_or l 0 empty_state) added ∙ get_or-append h.states (present m1.history ∷ []) empty_state 0 some in
          ap (λ x. trace_of x ss (state_at m1.history 0)) step.alike.dictionary ∙ ap (trace_of m.dictionary ss) first

      pub mark_room : length ms < r
      mark_room = omega (arith, held.room_of_marks, next_within _ _ step.first)

      pub made_walk : walk_of ss m1 (p + 1) ≡ moved_forward walk
      made_walk =
          let most : length m1.history.states - 1 ≡ max (length h.states - 1) (p + 1) = omega (arith, ap length added, length-append h.states (present m1.history ∷ []), held.each, end') in
          ap (λ x. record walk { dictionary = x; trace = trace_from ss m1; position = p + 1; made = length m1.history.states - 1 }) step.alike.dictionary
          ∙ ap (λ t. record walk { trace = t; position = p + 1; made = length m1.history.states - 1 }) same_trace
          ∙ ap (λ k. record walk { position = p + 1; made = k }) most
          ∙ sym (ap (λ b. cond b (reached (p + 1) walk) walk) (lt-ltb _ _ (next_within _ _ step.first)))

      pub made_answer : To mark.label ≡ answer_of_forward walk
      made_answer =
          ap (λ (e : Entry). To e.label) (sym (next_at _ _ (start empty_state) step.first))
          ∙ sym (ap (λ b. cond b (To (entry_at walk (p + 1)).label) AtEnd) (lt-ltb _ _ (next_within _ _ step.first)))

      pub made_held : (ms1 : List Mark) (more : ℕ) → ms1 ≡ ms ++ mark ∷ [] → r ≤ more → IsHeld ss m1 ms1 (p + 1) more
      made_held ms1 more is le =
          let e = entry_of mark (present m1.history) in
          let ms' = ms ++ mark ∷ [] in
          let pushed : made ms' m1.history.states ≡ before ++ e ∷ [] = ap (made ms') added ∙ made_push ms h.states mark (present m1.history) held.each in
          let len : length ms' ≡ length ms + 1 = omega (arith, length-append ms (mark ∷ [])) in
          subst (λ l. IsHeld ss m1 l (p + 1) more) (sym is) (record {
            trace =
                ap (λ es. es ++ map entry_in (coming m1 (point_after es m1))) pushed
                ∙ ap (λ o. (before ++ e ∷ []) ++ map entry_in (coming m1 (point_at m1.captures o))) (last_of-append nowhere before (e ∷ []))
                ∙ append_assoc before (e ∷ []) (map entry_in (coming m1 (standing mark m1)))
                ∙ ap (λ es. before ++ map entry_in es) (sym step.first)
                ∙ frontier ∙ sym same_trace;
            each = omega (arith, ap length added, length-append h.states (present m1.history ∷ []), held.each, len);
            place = omega (arith, ap (λ (k : History). k.place) step.history, held.place);
            within = omega (arith, held.within, len);
            room_of_marks = omega (arith, held.room_of_marks, ap length same_trace, le);
            room_of_store = omega (arith, held.room_of_store, ap length same_trace, step.reach);
          })

  -- going back moves the place alone
  pub back_held : (m1 : Course) → m1 ≡ record m { history = at_place (h.place - 1) h } → IsHeld ss m1 ms (p - 1) r
  back_held m1 e =
      subst (λ x. IsHeld ss x ms (p - 1) r) (sym e) (record {
        trace = held.trace;
        each = held.each;
        place = ap (λ n. n - 1) held.place;
        within = omega (arith, held.within);
        room_of_marks = held.room_of_marks;
        room_of_store = held.room_of_store;
      })

  -- going forward again moves the place alone
  module _ (known : p + 1 < length ms) where
    known_within : p + 1 < length (trace_from ss m)
    known_within = omega (arith, known, length_made ms h.states held.each, ap length held.trace, length-append before (map entry_in (coming m (point_after before m))))

    pub redone_walk : (m1 : Course) (k : ℕ) → m1 ≡ record m { history = at_place k h } → walk_of ss m1 (p + 1) ≡ moved_forward walk
    redone_walk m1 k e =
        let most : length h.states - 1 ≡ max (length h.states - 1) (p + 1) = omega (arith, held.each, known) in
        ap (λ x. walk_of ss x (p + 1)) e
        ∙ ap (λ n. record walk { position = p + 1; made = n }) most
        ∙ sym (ap (λ b. cond b (reached (p + 1) walk) walk) (lt-ltb _ _ known_within))

    pub redone_answer : (n : Mark) → n ≡ get_or ms (p + 1) n → To n.label ≡ answer_of_forward walk
    redone_answer n is =
        ap (λ (n : Mark). To n.label) is
        ∙ ap (λ (e : Entry). To e.label) (sym (held_at (p + 1) (start empty_state) n empty_state known))
        ∙ sym (ap (λ b. cond b (To (entry_at walk (p + 1)).label) AtEnd) (lt-ltb _ _ known_within))

-- a stepper at its start
pub start_held : (d : Dictionary) (ps : List Written) (keeps : Bool) (ss : Bor (List Statement)) (h : History) (m : Course) (ms none : List Mark) (r size reach : ℕ)
    → m ≡ record { dictionary = d; patterns = ps; keeps = keeps; captures = no_captures; history = settled h; reach = reach; frames = Statements ss ∷ [] }
    → (keeps ≡ false → uses_captures ss.now ≡ false) → none ≡ [] → ms ≡ none ++ (record { label = label.Start; code = code.Ok; stopped = false }) ∷ [] → size ≡ size_of ss.now → size ≤ m.reach → size + 1 ≤ r → IsHeld ss.now m ms 0 r
start_held d ps keeps ss h m ms none r size reach is free no_marks marks count room marks_room =
    let n : Mark = record { label = label.Start; code = code.Ok; stopped = false } in
    let marks' = marks ∙ ap (λ l. l ++ n ∷ []) no_marks in
    let bound = trace_size d (evaluated d) ss.now (present h) in
    let room' : size ≤ reach = omega (arith, room, ap (λ (c : Course). c.reach) is) in
    subst (λ l. IsHeld ss.now m l 0 r) (sym marks') (subst (λ c. IsHeld ss.now c (n ∷ []) 0 r) (sym is) (record {
      trace =
          ap (λ es. start (present h) ∷ map entry_in es) (append-nil (block_steps d (evaluating_of keeps d) ss.now (first_point (present h))))
          ∙ kept_trace d ss.now (present h) keeps free;
      each = refl;
      place = refl;
      within = omega arith;
      room_of_marks = omega (arith, bound);
      room_of_store = omega (arith, bound);
    }))
