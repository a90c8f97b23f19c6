-- What each move of a cut makes of the parts, and what lists they are at the end.
use Rattle.std.proofs.Common.{◌≡◌, ℕ, ◌+◌, ◌<◌, ◌≤◌, List, [], ◌∷◌, ◌++◌, length, arith}
use Rattle.std.proofs.Common.{refl, sym, subst, ◌∙◌, set}
use Rattle.std.specs.Prelude.{All, Option, Some, slice_get}
use Rattle.std.proofs.lemmas.List.Elements.{All-append}
use Rattle.ldp_num.specs.declared.step.Step.{Step}
use Rattle.ldp_num.specs.declared.step.Step.TheVariants.{Input}
use Rattle.ldp_num.specs.Steps.{StepFits, StepsFit, most_steps, most_inputs, most_results}
use Rattle.ldp_series.specs.StepList.{StepList, IsWellFormed}
use Rattle.ldp_series.specs.Cut.{Parts, AreParts, StillParts, Puts, IsMoved, AreMoved, IsCut}
use Rattle.ldp_series.specs.Cut.{with_head, with_tail, with_kept}
use Rattle.ldp_series.specs.Cut.AreParts.{in_the_head, in_the_tail, kept_too}
use Rattle.ldp_series.proofs.Stands.{Within}
use Rattle.ldp_series.proofs.PartRuns.{moved_count}
use Rattle.ldp_series.proofs.Halved.{sound, cut_law, all_one}

pub still_same : (h : Parts) → StillParts h h
still_same h = record { inputs = refl; parts = λ stays steps p. p }

pub still_then : (a b c : Parts) → StillParts a b → StillParts b c → StillParts a c
still_then a b c h k = record {
  inputs = k.inputs ∙ h.inputs;
  parts = λ stays steps p. k.parts stays steps (h.parts stays steps p);
}

pub still_kept : (h : Parts) (at place : ℕ) → slice_get h.in_head at ≡ Some (Some place)
    → StillParts h (with_kept h at place)
still_kept h at place is = record {
  inputs = refl;
  parts = λ stays steps p. kept_too steps h at place p is;
}

pub puts_head : (stays : ℕ) (step moved : Step) (h : Parts)
    → IsMoved stays h.in_head step moved → Puts stays step h (with_head h moved)
puts_head stays step moved h m = record {
  inputs = refl;
  parts = λ steps before fits p. in_the_head steps h step moved before p fits m;
}

pub puts_tail : (stays : ℕ) (step moved : Step) (old h : Parts) → StillParts old h
    → IsMoved h.inputs h.in_tail step moved → Puts stays step old (with_tail h moved)
puts_tail stays step moved old h still m = record {
  inputs = still.inputs;
  parts = λ steps before fits p. in_the_tail steps h step moved before
      (still.parts stays steps p)
      (subst (λ (n : ℕ). StepFits n before step) (sym still.inputs) fits) m;
}

pub head_list : (stays : ℕ) (steps : List Step) (h : Parts) → AreParts stays steps h
    → stays ≤ most_inputs → length h.kept ≤ most_results → length h.head ≤ most_steps
    → IsWellFormed (record { steps = h.head; outs = h.kept; inputs = stays })
head_list stays steps h p few_inputs few_outs small =
    let s = sound stays steps h p in
    record {
      fit = s.head;
      small = small;
      few_inputs = few_inputs;
      few_outs = few_outs;
      placed = s.kept;
    }

all_moved : (places : List (Option ℕ)) (n : ℕ) (outs moved : List ℕ) → Within places n
    → AreMoved places outs moved → All (λ place. place < n) moved
all_moved places n [] [] w m = λ k d e. absurd (omega arith)
all_moved places n [] (x ∷ moved) w m = absurd m
all_moved places n (out ∷ outs) [] w m = absurd m
all_moved places n (out ∷ outs) (x ∷ moved) w m =
    All-append (λ (place : ℕ). place < n) (x ∷ []) moved (all_one n x (w out x m.0))
    (all_moved places n outs moved w m.1)

pub tail_list : (stays : ℕ) (list : StepList) (h : Parts) (outs : List ℕ)
    → AreParts stays list.steps h → AreMoved h.in_tail list.outs outs → h.inputs ≡ list.inputs
    → length outs ≤ most_results → list.inputs + length h.kept ≤ most_inputs
    → length h.tail ≤ most_steps
    → IsWellFormed
    (record { steps = h.tail; outs = outs; inputs = list.inputs + length h.kept })
tail_list stays list h outs p m same few_outs few_inputs small =
    let s = sound stays list.steps h p in
    record {
      fit = subst (λ (n : ℕ). StepsFit (n + length h.kept) 0 h.tail) same s.tail;
      small = small;
      few_inputs = few_inputs;
      few_outs = few_outs;
      placed = all_moved h.in_tail (length h.tail) list.outs outs s.in_tail m;
    }

pub is_cut : (stays : ℕ) (list : StepList) (h : Parts) (outs : List ℕ)
    → AreParts stays list.steps h → AreMoved h.in_tail list.outs outs → h.inputs ≡ list.inputs
    → IsCut stays list (record { steps = h.head; outs = h.kept; inputs = stays })
    (record { steps = h.tail; outs = outs; inputs = list.inputs + length h.kept })
is_cut stays list h outs p m same = record {
  of_head = refl;
  of_tail = refl;
  outs = moved_count h.in_tail list.outs outs m;
  value = λ ops inputs count.
      cut_law ops stays inputs list h outs p m (count ∙ sym same);
}

-- the same where the new parts are written field by field
pub still_by : (inputs : ℕ) (head : List Step) (kept kept_now : List ℕ) (tail tail_now : List Step)
    (in_head in_tail in_tail_now : List (Option ℕ)) (at place input size : ℕ)
    → slice_get in_head at ≡ Some (Some place) → kept_now ≡ kept ++ place ∷ []
    → tail_now ≡ tail ++ Input input ∷ [] → input ≡ inputs + length kept
    → in_tail_now ≡ set in_tail at (Some size) → size ≡ length tail
    → StillParts
    (record {
      inputs = inputs;
      head = head;
      kept = kept;
      tail = tail;
      in_head = in_head;
      in_tail = in_tail;
    })
    (record {
      inputs = inputs;
      head = head;
      kept = kept_now;
      tail = tail_now;
      in_head = in_head;
      in_tail = in_tail_now;
    })
still_by inputs head kept kept_now tail tail_now in_head in_tail in_tail_now at place input size
    is k t n w s =
    let old : Parts =
    record {
      inputs = inputs;
      head = head;
      kept = kept;
      tail = tail;
      in_head = in_head;
      in_tail = in_tail;
    } in
    rw (k, t, n, w, s) (still_kept old at place is)
