-- What a machine keeps over a change of its store or its frames.
use Rattle.std.proofs.Common.{◌≡◌, ℕ, Bool, true, false, ◌+◌, ◌≤◌, ◌<◌, IfOk, OnErr, List, [], ◌∷◌, ◌++◌, length, reverse, Option, Some, None, Result, Ok, Err, refl, sym, ap, ◌∙◌, subst, arith, length-append, get_or, drop, take, ◌-◌}
use Rattle.std.proofs.lemmas.List.{get_or_append_left, take_all}
use Rattle.std.specs.declared.alloc.AllocError.{AllocError}
use Rattle.avp_lists.specs.History.{History, continued, present, state_at}
use Rattle.avp_lists.specs.States.{empty_state}
use Rattle.avp_lists.specs.declared.lists.State.{State}
use Rattle.avp_dict.specs.Dictionary.{Dictionary}
use Rattle.avp_patterns.specs.Patterns.{Written}
use Rattle.avp_unlang.specs.Captures.{Captures, Kept, filled}
use Rattle.avp_unlang.specs.Evaluations.{Evaluated, decided, evaluated}
use Rattle.avp_unlang.specs.Truth.{truth_by}
use Rattle.avp_unlang.specs.declared.codes.Code.{Code}
use Rattle.avp_unlang.specs.declared.tree.Cond.{Cond}
use Rattle.avp_unlang.specs.Meaning.{Point}
use Rattle.avp_unlang.specs.Resolutions.{StateFits}
use Rattle.avp_unlang.specs.declared.meaning.reasons.Reason.{Reason}
use Rattle.avp_unlang.specs.declared.tree.Line.{Line}
use Rattle.avp_step.specs.Trace.{Evaluating, closed, line_steps, unless_stopped}
use Rattle.avp_step.specs.internal.Frames.{AllFit, States, frame_entry, frame_steps, rest}
use Rattle.avp_step.specs.internal.Courses.{Course, FitsOn, IsContinued, IsEdited, IsLineDone, IsSound, StatesFit, course_of, evaluating, evaluating_of}
use Rattle.avp_step.specs.declared.frames.Frame.{Frame}
use Rattle.avp_step.specs.declared.frames.Frame.TheVariants.{Statements, Lines, Branches, End}
use Rattle.avp_step.proofs.Fitting.{continued_fits}
use Rattle.avp_step.proofs.StepLaws.{then_cong, then_cong_right}

-- ---- frames

-- a frame has the same steps where the state is the same that it names
frame_agrees : (d : Dictionary) (by : Evaluating) (at at' : States) (f : Frame) (p : Point) → at (frame_entry f) ≡ at' (frame_entry f) → frame_steps d by at f p ≡ frame_steps d by at' f p
frame_agrees d by at at' (Statements ss) p h = refl
frame_agrees d by at at' (Lines ls entry) p h = ap (λ s. unless_stopped (line_steps d s ls.now) p) h
frame_agrees d by at at' (Branches bs otherwise) p h = refl
frame_agrees d by at at' (End n entry) p h = ap (λ s. closed n s p ∷ []) h

rest_agrees : (d : Dictionary) (by : Evaluating) (at at' : States) (ps : List Written) (end : ℕ) (fs : List Frame) (p : Point) → AllFit d ps end fs → ((k : ℕ) → k < end → at k ≡ at' k) → rest d by at fs p ≡ rest d by at' fs p
rest_agrees d by at at' ps end [] p fit h = refl
rest_agrees d by at at' ps end (f ∷ fs) p fit h =
    then_cong (frame_steps d by at f) (frame_steps d by at' f) (rest d by at fs) p (frame_agrees d by at at' f p (h (frame_entry f) fit.0.entry))
    ∙ then_cong_right (frame_steps d by at' f) (rest d by at fs) (rest d by at' fs) p (λ r. rest_agrees d by at at' ps end fs r fit.1 h)

fit_later : (d : Dictionary) (ps : List Written) (end later : ℕ) (fs : List Frame) → end ≤ later → AllFit d ps end fs → AllFit d ps later fs
fit_later d ps end later [] le h = tt
fit_later d ps end later (f ∷ fs) le h =
    (record { room = h.0.room; entry = omega (arith, h.0.entry); suits = h.0.suits; passes = h.0.passes }, fit_later d ps end later fs le h.1)

-- the first of a list
pub front : {A : Type 0} (xs : List A) (x : A) → 1 ≤ length xs → x ≡ get_or xs 0 x → xs ≡ x ∷ take (length xs - 1) (drop 1 xs)
front [] x some is = absurd (omega arith)
front (y ∷ ys) x some is = ap (λ z. z ∷ ys) (sym is) ∙ ap (λ l. x ∷ l) (sym (take_all (length (y ∷ ys) - 1) ys (omega arith)))

-- the same of a machine that is equal
pub fits_moved : (f : Frame) (m m1 : Course) → m1 ≡ m → FitsOn m f → FitsOn m1 f
fits_moved f m m1 e fits = subst (λ x. FitsOn x f) (sym e) fits

pub continued_moved : (to : ℕ) (m m1 new : Course) → m ≡ m1 → IsContinued (state_at m.history to) m new → IsContinued (state_at m1.history to) m1 new
continued_moved to m m1 new e h = subst (λ (x : Course). IsContinued (state_at x.history to) x new) e h

pub edited_moved : (line : Line) (m m1 new : Course) (r : Result (Option Reason) AllocError) → m ≡ m1 → IfOk r (λ failed. IsEdited line m new failed) → IfOk r (λ failed. IsEdited line m1 new failed)
edited_moved line m m1 new r e h = subst (λ x. IfOk r (λ failed. IsEdited line x new failed)) e h

-- ---- one more state

pub states_added : (h h1 : History) (s : State) → h.place + 1 ≡ length h.states → h1 ≡ continued s h → h1.states ≡ h.states ++ s ∷ []
states_added h h1 s last e =
    ap (λ (k : History). k.states) e ∙ ap (λ l. l ++ s ∷ []) (take_all (h.place + 1) h.states (omega arith))

pub state_stays : (h h1 : History) (s : State) (k : ℕ) → h.place + 1 ≡ length h.states → h1 ≡ continued s h → k < length h.states → state_at h1 k ≡ state_at h k
state_stays h h1 s k last e lt =
    ap (λ l. get_or l k empty_state) (states_added h h1 s last e) ∙ get_or_append_left h.states (s ∷ []) empty_state k lt

module _ (d : Dictionary) (ps : List Written) (kept : Kept) (h : History) (room : ℕ) (fs : List Frame) (capacity : ℕ) (sound : IsSound (course_of d ps kept h room fs) capacity) where
  abbrev old : Course
  old = course_of d ps kept h room fs

  -- one more state
  module _ (h1 : History) (room1 : ℕ) (last : h.place + 1 ≡ length h.states) where
    pub longer_sound : length h.states ≤ length h1.states → StatesFit d h1 → IsSound (course_of d ps kept h1 room1 fs) capacity
    longer_sound le states = record {
      frames = fit_later d ps (length h.states) (length h1.states) (reverse fs) le sound.frames;
      states = states;
      capacity = sound.capacity;
    }

    added_longer : (s : State) → h1 ≡ continued s h → length h.states ≤ length h1.states
    added_longer s e = omega (arith, ap length (states_added h h1 s last e), length-append h.states (s ∷ []))

    pub added_sound : (s : State) → h1 ≡ continued s h → StateFits d s → IsSound (course_of d ps kept h1 room1 fs) capacity
    added_sound s e fits = longer_sound (added_longer s e) (continued_fits d h h1 s e fits sound.states)

    pub added_is : (s : State) → h1 ≡ continued s h → h.place + room ≤ h1.place + room1 → IsContinued s old (course_of d ps kept h1 room1 fs)
    added_is s e le = record {
      alike = record { dictionary = refl; patterns = refl; keeps = refl };
      captures = refl;
      history = e;
      reach = le;
      frames = refl;
      same = λ p. rest_agrees d (evaluating old) (state_at h1) (state_at h) ps (length h.states) (reverse fs) p sound.frames (λ k lt. state_stays h h1 s k last e lt);
    }

    -- an edit by a line
    pub edited_sound : (line : Line) (r : Result (Option Reason) AllocError) → IfOk r (λ failed. IsLineDone d (filled kept.captures line) h h1 failed) → OnErr r (h1 ≡ h) → StatesFit d h1 → IsSound (course_of d ps kept h1 room1 fs) capacity
    edited_sound line (Ok None) done refused states = longer_sound (added_longer (present h1) done.1) states
    edited_sound line (Ok (Some why)) done refused states = longer_sound (omega (arith, ap (λ (k : History). length k.states) done.1)) states
    edited_sound line (Err e) done refused states = longer_sound (omega (arith, ap (λ (k : History). length k.states) refused)) states

    pub edited_is : (line : Line) (r : Result (Option Reason) AllocError) → IfOk r (λ failed. IsLineDone d (filled kept.captures line) h h1 failed) → h.place + room ≤ h1.place + room1 → IfOk r (λ failed. IsEdited line old (course_of d ps kept h1 room1 fs) failed)
    edited_is line (Ok None) done le = (done.0, added_is (present h1) done.1 le)
    edited_is line (Ok (Some why)) done le = (done.0, record { alike = record { dictionary = refl; patterns = refl; keeps = refl }; captures = refl; history = done.1; reach = le }, refl)
    edited_is line (Err e) done le = done

-- ---- conditions

-- what a condition comes to where what is captured is kept, and where it is not
pub kept_evaluated : (keeps : Bool) (d : Dictionary) (cond : Cond) (s : State) (c : Code) (k : Captures) (e : Evaluated) → keeps ≡ true → e ≡ evaluated d cond s c k → e ≡ evaluating_of keeps d cond s c k
kept_evaluated keeps d cond s c k e is h = h ∙ sym (ap (λ b. evaluating_of b d cond s c k) is)

pub decided_by_truth : (keeps : Bool) (d : Dictionary) (cond : Cond) (s : State) (c : Code) (k : Captures) (b : Bool) → keeps ≡ false → b ≡ truth_by d cond s c → decided b k ≡ evaluating_of keeps d cond s c k
decided_by_truth keeps d cond s c k b is h = ap (λ b. decided b k) h ∙ sym (ap (λ b. evaluating_of b d cond s c k) is)
