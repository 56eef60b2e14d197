-- What the reader of networks answers for a whole text, from what its parts answered.
use mathlib.Core.List.{List}
use mathlib.Core.Path.{◌≡◌, refl, sym, ap, ◌∙◌}
use Prim.Native.Nat.{ℕ, ◌*◌, ◌≤◌}
use native.Mathlib.Omega.{arith}
use lib.ListN.{length, take}
use Rattle.std.specs.Prelude.{Result, Ok, Err}
use Rattle.model.specs.declared.network.NetworkSize.{NetworkSize}
use Rattle.model.specs.declared.refusal.Refusal.{Refusal}
use Rattle.model.specs.Refusal.{Check, accepted}
use Rattle.model.proofs.Laws.Answer.{answer-refused, written-refused}
use Rattle.model.proofs.Laws.Refusal.{or-else-next, or-else-refused, both-accept}
use Rattle.model.specs.Limits.{max_edges}
use Rattle.model.specs.Network.{network}
use Rattle.text.specs.Lines.{feed_lines}
use Rattle.text.specs.NetworkText.{reading, network_lines, network_of_arcs, arc, arcs_of}
use Rattle.text.specs.Reading.{read, refused_at, length_check}
use Rattle.text.specs.Parallel.{beside, Level}
use Rattle.text.proofs.Laws.Parallel.{comes-out-to}
use Rattle.reading.specs.Answers.{check_of, rooms_check, AnsweredThree}
use Rattle.reading.proofs.Answering.{rooms-decide}
use Rattle.network_reader.specs.Answers.{network_in, network_answer, text_network, network_file_check, network_text_check, NetworkRead, edges_read}
use Rattle.network_reader.specs.Steps.{arcs_in, all_arcs, NetworkTaken, EdgesAnswered}
use Rattle.network_reader.proofs.BothWays.{every-other}

-- 2, from what its check said
pub edges-answered : {nodes : ℕ} {xs ys zs firsts seconds lengths : List ℕ} {r : Check} {told : Result NetworkSize Refusal} {firsts' seconds' lengths' : List ℕ} → (length ys ≡ length xs) × (length zs ≡ length xs) → AnsweredThree xs ys zs firsts seconds lengths r firsts' seconds' lengths' → told ≡ network_answer r (network nodes xs ys zs) → EdgesAnswered (network nodes xs ys zs) firsts seconds lengths told firsts' seconds' lengths'
edges-answered {xs = xs} {ys = ys} {zs = zs} {firsts = firsts} {seconds = seconds} {lengths = lengths} {r = r} same a is =
    let check : rooms_check (length zs) firsts seconds lengths ≡ r = rw same.1 (sym (a.answer ∙ rooms-decide xs ys zs firsts seconds lengths same.0 same.1)) in
    record { answer = rw check is; firsts_after = rw check a.first_after; seconds_after = rw check a.second_after; lengths_after = rw check a.third_after }

-- the network that stands at the front of three lists
lists-are : (nodes count : ℕ) {xs ys zs : List ℕ} → Level max_edges xs ys zs → network_of_arcs nodes (arcs_in (2 * count) xs ys zs) ≡ network nodes (take count xs) (take count ys) (take count zs)
unfolding network_of_arcs arcs_in arcs_of
lists-are nodes count {xs} {ys} {zs} l =
    rw (every-other count (beside arc xs ys zs), comes-out-to arc max_edges xs ys zs l (λ a. a.from) xs l.one refl (λ i. refl) count, comes-out-to arc max_edges xs ys zs l (λ a. a.to) ys l.two refl (λ i. refl) count, comes-out-to arc max_edges xs ys zs l (λ a. a.weight) zs l.three refl (λ i. refl) count)

-- as many edges as the lists have room for
pub edges_few : {bytes xs ys zs : List ℕ} {r : Result NetworkSize Refusal} {nodes count : ℕ} → NetworkTaken bytes r xs ys zs → r ≡ Ok (record { nodes = nodes; edges = count }) → count ≤ max_edges
unfolding edges_read
edges_few t e = omega (arith, t.few, ap edges_read e)

-- A network text and the answer lists.
module _ (bytes firsts seconds lengths : List ℕ) where
  text-refused : {x : Refusal} → network_text_check bytes firsts seconds lengths ≡ Err x → NetworkRead bytes firsts seconds lengths (Err x) firsts seconds lengths
  unfolding network_answer
  text-refused e =
      record {
        answer = answer-refused _ e;
        firsts_after = written-refused _ firsts e;
        seconds_after = written-refused _ seconds e;
        lengths_after = written-refused _ lengths e;
      }

  -- 1
  pub network-too-long : {x : Refusal} → length_check bytes ≡ Err x → NetworkRead bytes firsts seconds lengths (Err x) firsts seconds lengths
  unfolding network_text_check network_file_check
  network-too-long e = text-refused (or-else-refused _ (or-else-refused _ e))

  -- a line is refused, or something is missing at the end
  pub network-bad : {x : Refusal} {r : Result NetworkSize Refusal} {xs ys zs : List ℕ} → length_check bytes ≡ accepted → NetworkTaken bytes r xs ys zs → r ≡ Err x → NetworkRead bytes firsts seconds lengths (Err x) firsts seconds lengths
  unfolding network_text_check network_file_check all_arcs check_of
  network-bad {x} long t e =
      let outcome : network_lines (feed_lines bytes) ≡ refused_at x.fault x.place = t.outcome ∙ rw e in
      let file : network_file_check bytes ≡ Err x = or-else-next _ long ∙ ap check_of outcome in
      text-refused (or-else-refused _ file)

  -- all lines are read
  pub network-answered : {nodes count : ℕ} {r told : Result NetworkSize Refusal} {xs ys zs firsts' seconds' lengths' : List ℕ} → length_check bytes ≡ accepted → NetworkTaken bytes r xs ys zs → r ≡ Ok (record { nodes = nodes; edges = count }) → Level max_edges xs ys zs → EdgesAnswered (network nodes (take count xs) (take count ys) (take count zs)) firsts seconds lengths told firsts' seconds' lengths' → NetworkRead bytes firsts seconds lengths told firsts' seconds' lengths'
  unfolding network_text_check network_file_check all_arcs check_of text_network network_in
  network-answered {nodes} {count} {xs = xs} {ys = ys} {zs = zs} long t e l a =
      let all : network_lines (feed_lines bytes) ≡ read (reading nodes (2 * count) (arcs_in (2 * count) xs ys zs)) = t.outcome ∙ rw e in
      let net : text_network bytes ≡ network nodes (take count xs) (take count ys) (take count zs) = rw all (lists-are nodes count l) in
      let check : network_text_check bytes firsts seconds lengths ≡ rooms_check (length (take count zs)) firsts seconds lengths = or-else-next _ (both-accept long (ap check_of all)) ∙ rw net in
      record {
        answer = rw (check, net) a.answer;
        firsts_after = rw (check, net) a.firsts_after;
        seconds_after = rw (check, net) a.seconds_after;
        lengths_after = rw (check, net) a.lengths_after;
      }
