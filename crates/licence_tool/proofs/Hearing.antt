use Rattle.std.proofs.Common.{◌≡◌, ◌+◌, ◌≤◌, ◌<◌, ℕ, List, [], length, replicate, None, Some, IfSome, Result, Ok, Err, refl, sym, ap, subst, arith, le-ltb, lt-ltb}
use Rattle.std.proofs.lemmas.List.{length-replicate}
use Rattle.options_text.specs.Answers.{◌>>=◌}
use Rattle.licence_tool.specs.Files.{Bytes, IsReading}
use Rattle.licence_tool.specs.Outcome.{bytes_or_status}
use Rattle.licence_tool.specs.Tool.{HearingSays, IsHeard, RefusalSays}
use Rattle.licence_tool.specs.declared.reading.TheConstants.{FILE_LIMIT}
use Rattle.licence_tool.specs.declared.status.Status.{Status}
use Rattle.licence_tool.specs.declared.status.Status.TheVariants.{Done, Usage, Licence, Options, MoreOptions, Script, ReadFault, WriteFault, NoMemory, FileTooLong, AuditNo}

-- what a status says of an answer, it says of another that is refused as that is, where as many readings may have failed
pub refusal_of : {X Y : Type 0} (Failed Wide : Type 0) (answer : Result X Status) (other : Result Y Status) (status : Status) → (Failed → Wide) → ((s : Status) → answer ≡ Err s → other ≡ Err s) → RefusalSays Failed answer status → RefusalSays Wide other status
refusal_of Failed Wide answer other NoMemory wide same says = tt
refusal_of Failed Wide answer other (ReadFault file) wide same says = (same (ReadFault file) says.0, wide says.1)
refusal_of Failed Wide answer other (FileTooLong file) wide same says = same (FileTooLong file) says
refusal_of Failed Wide answer other (Script fault) wide same says = same (Script fault) says
refusal_of Failed Wide answer other (Licence fault) wide same says = (same (Licence fault) says.0, says.1)
refusal_of Failed Wide answer other (Options fault) wide same says = (same (Options fault) says.0, says.1)
refusal_of Failed Wide answer other (MoreOptions set fault) wide same says = (same (MoreOptions set fault) says.0, says.1)
refusal_of Failed Wide answer other Done wide same says = absurd says
refusal_of Failed Wide answer other Usage wide same says = absurd says
refusal_of Failed Wide answer other WriteFault wide same says = absurd says
refusal_of Failed Wide answer other (AuditNo line) wide same says = absurd says

-- a file whose bytes aren't heard isn't judged
pub unheard : {X V Y : Type 0} (view : X → Y) (bytes_of : V → List ℕ) (position : ℕ) (next : List ℕ → Result Y Status) (Failed : Type 0) (told : Bytes) (status : Status)
    → IsHeard bytes_of (bytes_or_status position) Failed told (Err status) → IsHeard view (λ (r : Bytes). bytes_or_status position r >>= next) Failed told (Err status)
unheard view bytes_of position next Failed told status h =
    record { reading = h.reading; is = h.is; says = refusal_of Failed Failed (bytes_or_status position h.reading) _ status (λ f. f) (λ s e. ap (λ a. a >>= next) e) h.says }

-- a file whose bytes are heard is judged by them
pub judged : {X V Y : Type 0} (view : X → Y) (bytes_of : V → List ℕ) (position : ℕ) (next : List ℕ → Result Y Status) (Failed : Type 0) (told : Bytes) (bytes : V) (result : Result X Status)
    → IsHeard bytes_of (bytes_or_status position) Failed told (Ok bytes) → HearingSays view Failed (next (bytes_of bytes)) result → IsHeard view (λ (r : Bytes). bytes_or_status position r >>= next) Failed told result
judged view bytes_of position next Failed told bytes result h says =
    record { reading = h.reading; is = h.is; says = subst (λ (a : Result (List ℕ) Status). HearingSays view Failed (a >>= next) result) (sym h.says) says }

-- few enough bytes are heard
pub heard_few : (position : ℕ) (bytes : List ℕ) → length bytes ≤ FILE_LIMIT → bytes_or_status position (Some bytes) ≡ Ok bytes
heard_few position bytes few = rw (le-ltb FILE_LIMIT (length bytes) few) refl

-- and too many aren't
pub heard_too_many : (position : ℕ) (bytes : List ℕ) → FILE_LIMIT < length bytes → bytes_or_status position (Some bytes) ≡ Err (FileTooLong position)
heard_too_many position bytes many = rw (lt-ltb FILE_LIMIT (length bytes) many) refl

-- bytes that agree with what is told
pub agreeing : Bytes → Bytes
agreeing None = Some []
agreeing (Some held) = Some held

pub is_agreeing : (Failed : Type 0) (told : Bytes) → IsReading Failed told (agreeing told)
unfolding agreeing
is_agreeing Failed None = tt
is_agreeing Failed (Some held) = refl

-- bytes that agree with what is told, and are more than the limit where that may be
too_many : ℕ → Bytes → List ℕ
too_many limit None = replicate (limit + 1) 0
too_many limit (Some held) = held

too_many_agree : (limit : ℕ) (Failed : Type 0) (told : Bytes) → IsReading Failed told (Some (too_many limit told))
unfolding too_many
too_many_agree limit Failed None = tt
too_many_agree limit Failed (Some held) = refl

are_too_many : (limit : ℕ) (told : Bytes) → IfSome told (λ held. limit < length held) → limit < length (too_many limit told)
unfolding too_many
are_too_many limit None many = omega (arith, length-replicate {A = ℕ} (limit + 1) 0)
are_too_many limit (Some held) many = many

-- a file that is too long is heard so
pub heard_long : {V : Type 0} (bytes_of : V → List ℕ) (position : ℕ) (Failed : Type 0) (told : Bytes) → IfSome told (λ held. FILE_LIMIT < length held)
    → IsHeard bytes_of (bytes_or_status position) Failed told (Err (FileTooLong position))
heard_long bytes_of position Failed told many = record {
  reading = Some (too_many FILE_LIMIT told);
  is = too_many_agree FILE_LIMIT Failed told;
  says = heard_too_many position (too_many FILE_LIMIT told) (are_too_many FILE_LIMIT told many);
}

-- a file that is read is heard
pub heard_whole : {V : Type 0} (bytes_of : V → List ℕ) (position : ℕ) (Failed : Type 0) (told : Bytes) (bytes : V) → IfSome told (λ held. bytes_of bytes ≡ held) → length (bytes_of bytes) ≤ FILE_LIMIT
    → IsHeard bytes_of (bytes_or_status position) Failed told (Ok bytes)
heard_whole bytes_of position Failed told bytes are few = record {
  reading = Some (bytes_of bytes);
  is = are;
  says = heard_few position (bytes_of bytes) few;
}

-- a file for which there was too little memory
pub heard_without_memory : {V : Type 0} (bytes_of : V → List ℕ) (position : ℕ) (Failed : Type 0) (told : Bytes)
    → IsHeard bytes_of (bytes_or_status position) Failed told (Err NoMemory)
heard_without_memory bytes_of position Failed told = record { reading = agreeing told; is = is_agreeing Failed told; says = tt }
