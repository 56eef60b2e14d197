-- What was read of each text, as the functions behind it take it.
use mathlib.Core.List.{List, map}
use mathlib.Core.Path.{◌≡◌, refl, sym, subst, ◌∙◌}
use Prim.Native.Nat.{ℕ, ◌≤◌}
use native.Mathlib.Omega.{arith}
use lib.ListN.{length, take, length-map}
use Rattle.std.specs.Prelude.{Result, Ok, Err}
use Rattle.model.specs.declared.refusal.Refusal.{Refusal}
use Rattle.model.specs.Answer.{written}
use Rattle.model.specs.Checks.{sets_over_network_check, thresholds_check}
use Rattle.model.specs.Events.{Event, events}
use Rattle.model.specs.Limits.{max_edges, max_events, max_thresholds}
use Rattle.model.specs.Network.{Network, network, edges}
use Rattle.model.specs.Refusal.{accepted, fault_number}
use Rattle.model.specs.declared.network.NetworkSize.{NetworkSize}
use Rattle.model.proofs.Laws.Answer.{answered, refusal-answered}
use Rattle.model.proofs.Laws.Checks as model
use Rattle.text.specs.Parallel.{Level}
use Rattle.text.specs.EventText.{Row}
use Rattle.printing.specs.Answers.{RefusalPrinted}
use Rattle.network_reader.specs.Answers.{NetworkRead, text_network, network_file_check, network_text_check}
use Rattle.network_reader.proofs.Laws.{network-accepted, network-refused, network-passes}
use Rattle.event_reader.specs.Answers.{EventsRead, text_rows, event_file_check, event_text_check}
use Rattle.event_reader.proofs.Laws.{events-pass}
use Rattle.threshold_reader.specs.Answers.{ThresholdsRead, text_thresholds, threshold_file_check, threshold_text_check}
use Rattle.threshold_reader.proofs.Laws.{thresholds_pass}
use Rattle.report.specs.Parts.{AllPass, NetworkPasses, ReportsPass}
use Rattle.report.specs.Report.{BytesPrinted, bytes_over_network, bytes_over_rows, counts_table, report_bytes, line_or, network_name, reports_name, thresholds_name}
use Rattle.report.proofs.Laws.Files.{thresholds-file, reports-file, network-file}
use Rattle.report.proofs.Laws.Lines.{line-printed, next-printed}
use Rattle.report.proofs.Laws.Table.{front_of}

-- few enough for lists of that length
pub within : {n most long : ℕ} → n ≤ most → long ≡ most → n ≤ long
within h e = rw e h

-- thresholds
module _ {bytes old : List ℕ} {r : Result ℕ Refusal} {new : List ℕ} (told : ThresholdsRead bytes old r new) (long : length old ≡ max_thresholds) where
  thresholds-refused : {x : Refusal} → r ≡ Err x → threshold_file_check bytes ≡ Err x
  thresholds-refused e = sym (thresholds-file bytes old long) ∙ refusal-answered _ _ (sym e ∙ told.answer)

  pub thresholds-line : {x : Refusal} (more : List ℕ) {out : List ℕ} {q : Result ℕ Refusal} {out' : List ℕ} → r ≡ Err x → RefusalPrinted thresholds_name (fault_number x.fault) x.place out q out' → BytesPrinted (line_or (threshold_file_check bytes) thresholds_name more) out q out'
  thresholds-line more e p = line-printed thresholds_name more (thresholds-refused e) p

  module _ {count : ℕ} (e : r ≡ Ok count) where
    text-accepted : threshold_text_check bytes old ≡ accepted
    text-accepted = (answered _ (length (text_thresholds bytes)) (sym e ∙ told.answer)).0

    thresholds-accepted : threshold_file_check bytes ≡ accepted
    thresholds-accepted = sym (thresholds-file bytes old long) ∙ text-accepted

    thresholds-count : count ≡ length (text_thresholds bytes)
    thresholds-count = (answered _ (length (text_thresholds bytes)) (sym e ∙ told.answer)).1

    thresholds-are : take count new ≡ text_thresholds bytes
    thresholds-are = front_of (text_thresholds bytes) old new (sym thresholds-count) told.after text-accepted

    thresholds-rise : thresholds_check (text_thresholds bytes) ≡ accepted
    thresholds-rise = thresholds_pass bytes thresholds-accepted

    pub thresholds-few : length new ≡ length old → count ≤ length new
    thresholds-few kept = omega (arith, thresholds-count, (model.thresholds-accepted _ thresholds-rise).few)

    -- all that the table asks
    pub with-reports : {net : Network} {sets es xs : List ℕ} → ReportsPass net sets es xs → AllPass net sets es xs (take count new)
    with-reports p = record { sets_pass = p.pass; thresholds_pass = rw thresholds-are thresholds-rise }

    pub table-next : (net : Network) (sets : List ℕ) (es : List Event) {out : List ℕ} {q : Result ℕ Refusal} {out' : List ℕ} → BytesPrinted (counts_table net sets es (take count new)) out q out' → BytesPrinted (line_or (threshold_file_check bytes) thresholds_name (counts_table net sets es (text_thresholds bytes))) out q out'
    table-next net sets es {out} {q} {out'} p =
        next-printed thresholds_name (counts_table net sets es (text_thresholds bytes)) thresholds-accepted
        (subst (λ (ts : List ℕ). BytesPrinted (counts_table net sets es ts) out q out') thresholds-are p)

-- reports over a network that passes
module _ {net : Network} {bytes sets es xs : List ℕ} {r : Result ℕ Refusal} {sets' es' xs' : List ℕ} (told : EventsRead net bytes sets es xs r sets' es' xs') (pass : NetworkPasses net) (level : Level max_events sets es xs) where
  same_check : event_text_check net bytes sets es xs ≡ event_file_check net bytes
  same_check = reports-file net bytes sets es xs level

  pub reports-line : {x : Refusal} (thresholds : List ℕ) {out : List ℕ} {q : Result ℕ Refusal} {out' : List ℕ} → r ≡ Err x → RefusalPrinted reports_name (fault_number x.fault) x.place out q out' → BytesPrinted (bytes_over_network net bytes thresholds) out q out'
  unfolding bytes_over_network
  reports-line thresholds e p = line-printed reports_name _ (sym same_check ∙ refusal-answered _ _ (sym e ∙ told.answer)) p

  module _ {count : ℕ} (e : r ≡ Ok count) where
    rows-accepted : event_text_check net bytes sets es xs ≡ accepted
    rows-accepted = (answered _ (length (text_rows net bytes)) (sym e ∙ told.answer)).0

    rows-count : count ≡ length (text_rows net bytes)
    rows-count = (answered _ (length (text_rows net bytes)) (sym e ∙ told.answer)).1

    column : (f : Row → ℕ) (old new : List ℕ) → new ≡ written (event_text_check net bytes sets es xs) (map f (text_rows net bytes)) old → take count new ≡ map f (text_rows net bytes)
    column f old new w = front_of (map f (text_rows net bytes)) old new (length-map (text_rows net bytes) f ∙ sym rows-count) w rows-accepted

    all_pass : sets_over_network_check net (map (λ r. r.set) (text_rows net bytes)) (map (λ r. r.edge) (text_rows net bytes)) (map (λ r. r.offset) (text_rows net bytes)) ≡ accepted
    all_pass = events-pass net bytes (sym same_check ∙ rows-accepted)

    pub rows_few : count ≤ max_events
    rows_few = omega (arith, rows-count, length-map (text_rows net bytes) (λ (r : Row). r.edge), (model.sets-accepted _ _ _ _ all_pass).are-events.few)

    sets-are : take count sets' ≡ map (λ r. r.set) (text_rows net bytes)
    sets-are = column (λ r. r.set) sets sets' told.sets_after

    edges_are : take count es' ≡ map (λ r. r.edge) (text_rows net bytes)
    edges_are = column (λ r. r.edge) es es' told.edges_after

    offsets_are : take count xs' ≡ map (λ r. r.offset) (text_rows net bytes)
    offsets_are = column (λ r. r.offset) xs xs' told.offsets_after

    pub reports-pass : ReportsPass net (take count sets') (take count es') (take count xs')
    reports-pass = record { pass = rw (sets-are, edges_are, offsets_are) all_pass }

    pub thresholds-next : (thresholds : List ℕ) {out : List ℕ} {q : Result ℕ Refusal} {out' : List ℕ} → BytesPrinted (line_or (threshold_file_check thresholds) thresholds_name (counts_table net (take count sets') (events (take count es') (take count xs')) (text_thresholds thresholds))) out q out' → BytesPrinted (bytes_over_network net bytes thresholds) out q out'
    unfolding bytes_over_network bytes_over_rows
    thresholds-next thresholds p =
        next-printed reports_name _ (sym same_check ∙ rows-accepted) (rw (sets-are, edges_are, offsets_are) at p)

-- a network
module _ {bytes firsts seconds lengths : List ℕ} {r : Result NetworkSize Refusal} {firsts' seconds' lengths' : List ℕ} (told : NetworkRead bytes firsts seconds lengths r firsts' seconds' lengths') (level : Level max_edges firsts seconds lengths) where
  network-check : network_text_check bytes firsts seconds lengths ≡ network_file_check bytes
  network-check = network-file bytes firsts seconds lengths level

  pub network-line : {x : Refusal} (reports thresholds : List ℕ) {out : List ℕ} {q : Result ℕ Refusal} {out' : List ℕ} → r ≡ Err x → RefusalPrinted network_name (fault_number x.fault) x.place out q out' → BytesPrinted (report_bytes bytes reports thresholds) out q out'
  unfolding report_bytes
  network-line reports thresholds e p = line-printed network_name _ (sym network-check ∙ network-refused _ _ (sym e ∙ told.answer)) p

  module _ {size : NetworkSize} (e : r ≡ Ok size) where
    network-read : (network_text_check bytes firsts seconds lengths ≡ accepted) × (size.nodes ≡ (text_network bytes).nodes) × (size.edges ≡ edges (text_network bytes))
    network-read = network-accepted _ (text_network bytes) (sym e ∙ told.answer)

    is-network : model.IsNetwork (text_network bytes)
    is-network = model.network-accepted _ (network-passes bytes (sym network-check ∙ network-read.0))

    pub edges_few : size.edges ≤ max_edges
    edges_few = omega (arith, network-read.2, is-network.edges-to)

    network-is : network size.nodes (take size.edges firsts') (take size.edges seconds') (take size.edges lengths') ≡ text_network bytes
    network-is =
        let f = front_of (text_network bytes).firsts firsts firsts' (is-network.firsts_length ∙ sym network-read.2) told.firsts_after network-read.0 in
        let s = front_of (text_network bytes).seconds seconds seconds' (is-network.seconds_length ∙ sym network-read.2) told.seconds_after network-read.0 in
        let l = front_of (text_network bytes).lengths lengths lengths' (sym network-read.2) told.lengths_after network-read.0 in
        rw (f, s, l, network-read.1) refl

    pub edges-pass : NetworkPasses (network size.nodes (take size.edges firsts') (take size.edges seconds') (take size.edges lengths'))
    edges-pass = record { pass = rw network-is (network-passes bytes (sym network-check ∙ network-read.0)) }

    pub reports-next : (reports thresholds : List ℕ) {out : List ℕ} {q : Result ℕ Refusal} {out' : List ℕ} → BytesPrinted (bytes_over_network (network size.nodes (take size.edges firsts') (take size.edges seconds') (take size.edges lengths')) reports thresholds) out q out' → BytesPrinted (report_bytes bytes reports thresholds) out q out'
    unfolding report_bytes
    reports-next reports thresholds {out} {q} {out'} p =
        next-printed network_name _ (sym network-check ∙ network-read.0)
        (subst (λ (net : Network). BytesPrinted (bytes_over_network net reports thresholds) out q out') network-is p)
