-- Files that are read one after another, each where all those before it are accepted.
use Rattle.std.proofs.Common.{◌≡◌, ℕ, ◌≤◌, ◌<◌, List, [], ◌∷◌, ◌++◌, map, None, Some, IfSome, Result, Ok, Err, refl, sym, ap, ◌∙◌, subst, arith, append-nil, append_assoc}
use Rattle.options_text.specs.Answers.{◌>>=◌}
use Rattle.licence_tool.specs.Files.{AreReadings, Bytes, IsReading}
use Rattle.licence_tool.specs.Tool.{AreHeard, HearingSays, IsHeard}
use Rattle.licence_tool.proofs.Hearing.{agreeing, is_agreeing, refusal_of}
use Rattle.licence_tool.specs.declared.status.Status.{Status}

-- what is read of a file may be read of it as well where it is told the same and readings may fail as well
pub wider : (Failed Wide : Type 0) (told same reading : Bytes) → told ≡ same → (Failed → Wide) → IsReading Failed told reading → IsReading Wide same reading
wider Failed Wide told same None equal wide reads = wide reads
wider Failed Wide told same (Some bytes) equal wide reads = subst (λ (t : Bytes). IfSome t (λ held. bytes ≡ held)) equal reads

pub wider_all : (Failed Wide : Type 0) (told readings : List Bytes) → (Failed → Wide) → AreReadings Failed told readings → AreReadings Wide told readings
wider_all Failed Wide [] [] wide reads = tt
wider_all Failed Wide [] (reading ∷ readings) wide reads = absurd reads
wider_all Failed Wide (told ∷ others) [] wide reads = absurd reads
wider_all Failed Wide (told ∷ others) (reading ∷ readings) wide reads = (wider Failed Wide told told reading refl wide reads.0, wider_all Failed Wide others readings wide reads.1)

-- readings of some files and of others are readings of both
together : (Failed : Type 0) (told readings others behind : List Bytes) → AreReadings Failed told readings → AreReadings Failed others behind → AreReadings Failed (told ++ others) (readings ++ behind)
together Failed [] [] others behind are more = more
together Failed [] (r ∷ rs) others behind are more = absurd are
together Failed (t ∷ ts) [] others behind are more = absurd are
together Failed (t ∷ ts) (r ∷ rs) others behind are more = (are.0, together Failed ts rs others behind are.1 more)

-- bytes that agree with what is told of several files
pub agreeing_all : List Bytes → List Bytes
agreeing_all [] = []
agreeing_all (told ∷ others) = agreeing told ∷ agreeing_all others

pub are_agreeing : (Failed : Type 0) (told : List Bytes) → AreReadings Failed told (agreeing_all told)
unfolding agreeing_all
are_agreeing Failed [] = tt
are_agreeing Failed (told ∷ others) = (is_agreeing Failed told, are_agreeing Failed others)

-- the same is told, by what is told of each
same_told : {X : Type 0} (f g : X → Bytes) (xs : List X) → ((x : X) → f x ≡ g x) → map f xs ≡ map g xs
same_told f g [] same = refl
same_told f g (x ∷ xs) same = let first = same x in let others = same_told f g xs same in cc

-- what comes of no file, or of one that is heard so and of others by what it says
abbrev pub in_order : {X Y : Type 0} → Result Y Status → (Bytes → Result X Status) → (X → List Bytes → Result Y Status) → List Bytes → Result Y Status
in_order none heard behind [] = none
in_order none heard behind (reading ∷ readings) = heard reading >>= λ x. behind x readings

-- what a result says of an answer, what follows it says of what follows the answer
onward : {V X Y : Type 0} (view : V → X) (gives : X → Y) (Failed Wide : Type 0) (heard : Result X Status) (whole : Result Y Status) (result : Result V Status) → (Failed → Wide) → whole ≡ heard >>= (λ x. Ok (gives x))
    → HearingSays view Failed heard result → HearingSays (λ (y : Y). y) Wide whole (result >>= λ v. Ok (gives (view v)))
onward {X = X} view gives Failed Wide heard whole (Ok v) wide is says = is ∙ ap (λ (a : Result X Status). a >>= λ x. Ok (gives x)) says
onward {X = X} view gives Failed Wide heard whole (Err status) wide is says = refusal_of Failed Wide heard whole status wide (λ s e. is ∙ ap (λ (a : Result X Status). a >>= λ x. Ok (gives x)) e) says

-- The first files were read and accepted, and what comes of them with others behind them is what `behind` says of the others. What the files hold is told as before, and no fewer readings have failed.
pub record ReadSoFar {Y : Type 0} (hears : List Bytes → Result Y Status) (contents now : List ℕ → Bytes) (old new : ℕ) (told : List Bytes) (behind : List Bytes → Result Y Status) : Type 0 where
  pub readings : List Bytes
  pub are : AreReadings (old < new) told readings
  pub go_on : (others : List Bytes) → hears (readings ++ others) ≡ behind others
  pub same : (other : List ℕ) → now other ≡ contents other
  pub later : old ≤ new

pub begins : {Y : Type 0} (hears : List Bytes → Result Y Status) (contents : List ℕ → Bytes) (old : ℕ) → ReadSoFar hears contents contents old old [] hears
begins hears contents old = record { readings = []; are = tt; go_on = λ others. refl; same = λ other. refl; later = omega arith }

module _ {Y : Type 0} {hears : List Bytes → Result Y Status} {contents now : List ℕ → Bytes} {old new : ℕ} {told : List Bytes} where
  -- what was read may be read where more readings may have failed, with what is read of others
  more_read : {behind : List Bytes → Result Y Status} (last : ℕ) (others readings : List Bytes) (so : ReadSoFar hears contents now old new told behind) → new ≤ last → AreReadings (old < last) others readings
      → AreReadings (old < last) (told ++ others) (so.readings ++ readings)
  more_read last others readings so grows are =
      together (old < last) told so.readings others readings (wider_all (old < new) (old < last) told so.readings (λ f. omega arith) so.are) are

  -- what is told of them and what comes of the others may be said otherwise
  pub said_as : {behind next : List Bytes → Result Y Status} (others : List Bytes) → told ≡ others → ((rest : List Bytes) → behind rest ≡ next rest) → ReadSoFar hears contents now old new told behind → ReadSoFar hears contents now old new others next
  said_as others is goes so = record {
    readings = so.readings;
    are = subst (λ (t : List Bytes). AreReadings (old < new) t so.readings) is so.are;
    go_on = λ rest. so.go_on rest ∙ goes rest;
    same = so.same;
    later = so.later;
  }

  -- the next file is accepted
  pub accepted : {V X : Type 0} {view : V → X} {heard : Bytes → Result X Status} {later : List ℕ → Bytes} {last : ℕ} {name : List ℕ} {x : V} (none : Result Y Status) (behind : X → List Bytes → Result Y Status)
      → ReadSoFar hears contents now old new told (in_order none heard behind) → ((other : List ℕ) → later other ≡ now other) → new ≤ last → IsHeard view heard (new < last) (now name) (Ok x)
      → ReadSoFar hears contents later old last (told ++ contents name ∷ []) (behind (view x))
  accepted {X = X} {last = last} {name = name} none behind so same grows h = record {
    readings = so.readings ++ h.reading ∷ [];
    are = more_read last (contents name ∷ []) (h.reading ∷ []) so grows (wider (new < last) (old < last) (now name) (contents name) h.reading (so.same name) (λ f. omega (arith, so.later)) h.is, tt);
    go_on = λ others. ap hears (append_assoc so.readings (h.reading ∷ []) others) ∙ (so.go_on (h.reading ∷ others) ∙ ap (λ (a : Result X Status). a >>= λ x. behind x others) h.says);
    same = λ other. same other ∙ so.same other;
    later = omega (arith, so.later);
  }

  -- it is refused
  pub refused : {V X Z : Type 0} {view : V → X} {heard : Bytes → Result X Status} {last : ℕ} {name : List ℕ} {status : Status} {any : Z → Y} (none : Result Y Status) (behind : X → List Bytes → Result Y Status) (rest : List Bytes)
      → ReadSoFar hears contents now old new told (in_order none heard behind) → new ≤ last → IsHeard view heard (new < last) (now name) (Err status)
      → AreHeard any hears (old < last) (told ++ contents name ∷ rest) (Err status)
  refused {X = X} {heard = heard} {last = last} {name = name} {status = status} none behind rest so grows h = record {
    readings = so.readings ++ h.reading ∷ agreeing_all rest;
    are = more_read last (contents name ∷ rest) (h.reading ∷ agreeing_all rest) so grows
        (wider (new < last) (old < last) (now name) (contents name) h.reading (so.same name) (λ f. omega (arith, so.later)) h.is, are_agreeing (old < last) rest);
    says = refusal_of (new < last) (old < last) (heard h.reading) _ status (λ f. omega (arith, so.later))
        (λ s e. so.go_on (h.reading ∷ agreeing_all rest) ∙ ap (λ (a : Result X Status). a >>= λ x. behind x (agreeing_all rest)) e) h.says;
  }

  -- all are accepted
  pub finished : {Z : Type 0} {any : Z → Y} {behind : List Bytes → Result Y Status} (z : Z) → ReadSoFar hears contents now old new told behind → behind [] ≡ Ok (any z) → AreHeard any hears (old < new) told (Ok z)
  finished z so is = record { readings = so.readings; are = so.are; says = ap hears (sym (append-nil so.readings)) ∙ (so.go_on [] ∙ is) }

  -- several files come last
  pub several : {V X Z : Type 0} {view : V → X} {heard : List Bytes → Result X Status} {last : ℕ} {result : Result V Status} (gives : X → Y) (name : Z → List ℕ) (xs : List Z)
      → ReadSoFar hears contents now old new told (λ readings. heard readings >>= λ x. Ok (gives x)) → new ≤ last → AreHeard view heard (new < last) (map (λ x. now (name x)) xs) result
      → AreHeard (λ (y : Y). y) hears (old < last) (told ++ map (λ x. contents (name x)) xs) (result >>= λ v. Ok (gives (view v)))
  several {view = view} {heard = heard} {last = last} {result = result} gives name xs so grows h = record {
    readings = so.readings ++ h.readings;
    are = more_read last (map (λ x. contents (name x)) xs) h.readings so grows
        (subst (λ (t : List Bytes). AreReadings (old < last) t h.readings) (same_told (λ x. now (name x)) (λ x. contents (name x)) xs (λ x. so.same (name x)))
        (wider_all (new < last) (old < last) (map (λ x. now (name x)) xs) h.readings (λ f. omega (arith, so.later)) h.are));
    says = onward view gives (new < last) (old < last) (heard h.readings) _ result (λ f. omega (arith, so.later)) (so.go_on h.readings) h.says;
  }
