use Rattle.std.proofs.Common.{◌≢◌, List, [], ◌∷◌, Result, Ok, Err, subst}
use Rattle.options_text.specs.Answers.{◌>>=◌}
use Rattle.licence_tool.specs.Files.{AreReadings, Bytes}
use Rattle.licence_tool.specs.Outcome.{licence_heard, options_heard, sets_heard}
use Rattle.licence_tool.specs.Tool.{AreHeard, HearingSays, RefusalSays}
use Rattle.licence_tool.specs.declared.status.Status.{Status}
use Rattle.licence_tool.specs.declared.status.Status.TheVariants.{Done, NoMemory}
use Rattle.licence_tool.proofs.Readings.{in_order}
use Rattle.licence_daemon.specs.Serve.{ServeFiles}
use Rattle.licence_daemon.specs.Terms.{AreOfServe, AreTerms, TermsRead, terms_heard, terms_seen}
use Rattle.licence_daemon.specs.declared.terms.Terms.{Terms}

-- a refusal is no end with all done
pub not_done : {Y : Type 0} (Failed : Type 0) (answer : Result Y Status) (status : Status) → RefusalSays Failed answer status → status ≢ Done
not_done Failed answer status says e = subst (λ (s : Status). RefusalSays Failed answer s) e says

-- what comes of the files in their order
abbrev pub terms_hears : List Bytes → Result TermsRead Status
terms_hears =
    in_order (Err NoMemory) licence_heard (λ licence.
    in_order (Err NoMemory) (options_heard 0) (λ options readings.
    sets_heard (options ∷ []) readings >>= λ sets. Ok (record { licence = licence; sets = sets })))

abbrev pub serve_files : ServeFiles Bytes → List Bytes
serve_files files = files.licence ∷ files.options ∷ files.more

-- what is said of their readings in that order is said of readings of each
as_serve : (Failed : Type 0) (told : ServeFiles Bytes) (readings : List Bytes) (Says : List Bytes → Type 0) → AreReadings Failed (serve_files told) readings → Says readings
    → (each : ServeFiles Bytes) × AreOfServe Failed told each × Says (serve_files each)
as_serve Failed told [] Says are says = absurd are
as_serve Failed told (l ∷ []) Says are says = absurd are.1
as_serve Failed told (l ∷ o ∷ m) Says are says = (record { licence = l; options = o; more = m }, record { licence = are.0; options = are.1.0; more = are.1.1 }, says)

-- what they say of what is seen of terms, they say of the terms
seen : (Failed : Type 0) (heard : Result TermsRead Status) (result : Result Terms Status) → HearingSays (λ (read : TermsRead). read) Failed heard (result >>= λ terms. Ok (terms_seen terms)) → HearingSays terms_seen Failed heard result
seen Failed heard (Ok terms) says = says
seen Failed heard (Err status) says = says

pub terms_of : {Failed : Type 0} {told : ServeFiles Bytes} (result : Result Terms Status)
    → AreHeard (λ (read : TermsRead). read) terms_hears Failed (serve_files told) (result >>= λ terms. Ok (terms_seen terms)) → AreTerms Failed told result
terms_of {Failed = Failed} {told = told} result heard =
    let r = as_serve Failed told heard.readings (λ readings. HearingSays (λ (read : TermsRead). read) Failed (terms_hears readings) (result >>= λ terms. Ok (terms_seen terms))) heard.are heard.says in
    record { readings = r.0; are = r.1; says = seen Failed (terms_heard r.0) result r.2 }
