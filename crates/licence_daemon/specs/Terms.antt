-- What the files of a `serve` say.
use Rattle.std.specs.Prelude.{ℕ, Bool, ◌&&◌, List, [], ◌∷◌, map, is_some, Result, Ok}
use Rattle.std.specs.List.{list_all}
use Rattle.feature_lines.specs.Licence.{Contents}
use Rattle.options_text.specs.Answers.{◌>>=◌}
use Rattle.options_text.specs.Options.{OptionsFile}
use Rattle.licence_tool.specs.Files.{AreReadings, Bytes, IsReading}
use Rattle.licence_tool.specs.Outcome.{licence_heard, options_heard, sets_heard}
use Rattle.licence_tool.specs.Tool.{HearingSays}
use Rattle.licence_tool.specs.declared.status.Status.{Status}
use Rattle.licence_daemon.specs.Serve.{ServeFiles}
use Rattle.licence_daemon.specs.declared.terms.Terms.{Terms}

-- what a daemon serves: a licence, and the options of each rule set
pub record TermsRead : Type 0 where
  pub licence : Contents
  pub sets : List OptionsFile

abbrev pub terms_seen : Terms → TermsRead
terms_seen terms = record { licence = terms.licence; sets = terms.sets.items }

-- what the files hold, as far as that is told
abbrev pub serve_told : (List ℕ → Bytes) → ServeFiles (List ℕ) → ServeFiles Bytes
serve_told contents names = record { licence = contents names.licence; options = contents names.options; more = map contents names.more }

-- whether it is told of each file what it holds
abbrev pub are_all_told : ServeFiles Bytes → Bool
are_all_told told = is_some told.licence && (is_some told.options && list_all is_some told.more)

-- what may be read of them
pub record AreOfServe (Failed : Type 0) (told readings : ServeFiles Bytes) : Type 0 where
  pub licence : IsReading Failed told.licence readings.licence
  pub options : IsReading Failed told.options readings.options
  pub more : AreReadings Failed told.more readings.more

-- what the files say by what is read of them, or the status of the first file at fault
abbrev pub terms_heard : ServeFiles Bytes → Result TermsRead Status
terms_heard readings =
    licence_heard readings.licence >>= λ licence.
    (options_heard 0 readings.options >>= λ options.
    (sets_heard (options ∷ []) readings.more >>= λ sets.
    Ok (record { licence = licence; sets = sets })))

-- the files were read, and the result says what is heard of them
pub record AreTerms (Failed : Type 0) (told : ServeFiles Bytes) (result : Result Terms Status) : Type 0 where
  pub readings : ServeFiles Bytes
  pub are : AreOfServe Failed told readings
  pub says : HearingSays terms_seen Failed (terms_heard readings) result
