-- What the lines of a trial's client ask.
use Rattle.std.proofs.Common.{◌≡◌, ℕ, ◌<◌, ◌≤◌, ◌^◌, ◌∙◌, true, nat_le, List, [], ◌∷◌, ◌++◌, codes, cond, decimal, Err, Ok, ap, refl, append_assoc, arith}
use Rattle.std.proofs.lemmas.Bool.{and_from, and_parts, le-leb, leb-true}
use Rattle.std.proofs.lemmas.List.Folds.{list_all-append}
use Rattle.std.specs.List.{list_all}
use Rattle.lic_text.specs.Lines.{words_of}
use Rattle.lic_types.specs.Name.{is_name_byte}
use Rattle.lic_types.specs.declared.client.Client.{Client}
use Rattle.line_protocol.specs.Requests.{is_request_byte, request_of, wire_of_words}
use Rattle.line_protocol.specs.declared.wire.Wire.TheVariants as wire
use Rattle.line_protocol.specs.declared.wire.WireFault.TheVariants.{BadByte}
use Rattle.script_words.proofs.Tokens.{IsToken, last, next, token_number}
use Rattle.trial_link.specs.Stages.{line_of}
use Rattle.trial_link.specs.declared.call.Call.{Call}
use Rattle.trial_link.specs.declared.call.Call.TheVariants.{Hello, Checkout, Checkin, Quit}
use Rattle.trial_terms.proofs.Names.{numbered_name}

-- a letter and a number
abbrev pub numbered : ℕ → ℕ → List ℕ
numbered letter number = letter ∷ decimal number

-- the client of a number
abbrev pub client_of : ℕ → Client
client_of number = record { user = numbered 117 number; host = numbered 104 number; display = numbered 100 number; project = numbered 112 number }

-- the words behind HELLO, and those behind each of them
abbrev pub last_words : ℕ → List ℕ
last_words number = numbered 100 number ++ 32 ∷ numbered 112 number

abbrev pub later_words : ℕ → List ℕ
later_words number = numbered 104 number ++ 32 ∷ last_words number

abbrev pub hello_words : ℕ → List ℕ
hello_words number = numbered 117 number ++ 32 ∷ later_words number

-- a line without its LF
abbrev pub body_of : ℕ → Call → List ℕ
body_of number Hello = codes "HELLO" ++ 32 ∷ hello_words number
body_of number Checkout = codes "CHECKOUT trial 1.0"
body_of number Checkin = codes "CHECKIN trial"
body_of number Quit = codes "QUIT"

pub line_is : (number : ℕ) (call : Call) → line_of number call ≡ body_of number call ++ 10 ∷ []
line_is number Hello = simp append_assoc refl
line_is number Checkout = refl
line_is number Checkin = refl
line_is number Quit = refl

-- the bytes of names and spaces may stand in a request
name_request : (b : ℕ) → is_name_byte b ≡ true → is_request_byte b ≡ true
name_request b h =
    let p = and_parts (nat_le 33 b) (nat_le b 126) h in
    let low : 33 ≤ b = leb-true 33 b p.0 in
    and_from _ _ (le-leb 32 b (omega arith)) p.1

names_request : (bytes : List ℕ) → list_all is_name_byte bytes ≡ true → list_all is_request_byte bytes ≡ true
names_request [] h = refl
names_request (b ∷ bs) h = let p = and_parts _ _ h in and_from _ _ (name_request b p.0) (names_request bs p.1)

more_request : (word rest : List ℕ) → IsToken word → list_all is_request_byte rest ≡ true → list_all is_request_byte (word ++ 32 ∷ rest) ≡ true
more_request word rest t h = list_all-append is_request_byte word (32 ∷ rest) ∙ and_from _ _ (names_request word t.each) h

module _ (number : ℕ) (small : number < 2 ^ 32) where
  token : (letter : ℕ) → is_name_byte letter ≡ true → IsToken (numbered letter number)
  token letter h = record { some = refl; each = and_from _ _ h (token_number number (omega arith)).each }

  u : IsToken (numbered 117 number)
  u = token 117 refl

  h : IsToken (numbered 104 number)
  h = token 104 refl

  d : IsToken (numbered 100 number)
  d = token 100 refl

  p : IsToken (numbered 112 number)
  p = token 112 refl

  hello : IsToken (codes "HELLO")
  hello = record { some = refl; each = refl }

  words_are : words_of (body_of number Hello) ≡ codes "HELLO" ∷ numbered 117 number ∷ numbered 104 number ∷ numbered 100 number ∷ numbered 112 number ∷ []
  words_are = next (codes "HELLO") (hello_words number) _ hello (next (numbered 117 number) (later_words number) _ u (next (numbered 104 number) (last_words number) _ h (next (numbered 100 number) (numbered 112 number) _ d (last (numbered 112 number) p))))

  pub hello_bytes : list_all is_request_byte (body_of number Hello) ≡ true
  hello_bytes = more_request (codes "HELLO") (hello_words number) hello (more_request (numbered 117 number) (later_words number) u (more_request (numbered 104 number) (last_words number) h (more_request (numbered 100 number) (numbered 112 number) d (names_request (numbered 112 number) p.each))))

  -- it greets for this client
  pub greets : request_of (body_of number Hello) ≡ Ok (wire.Hello (client_of number))
  greets =
      ap (λ b. cond b (wire_of_words (words_of (body_of number Hello))) (Err BadByte)) hello_bytes
      ∙ ap wire_of_words words_are
      ∙ rw (numbered_name 117 number refl small, numbered_name 104 number refl small, numbered_name 100 number refl small, numbered_name 112 number refl small) refl

pub asks_seat : (number : ℕ) → request_of (body_of number Checkout) ≡ Ok (wire.Checkout (codes "trial") (record { key = 1000000000 }))
asks_seat number = refl

pub gives_back : (number : ℕ) → request_of (body_of number Checkin) ≡ Ok (wire.Checkin (codes "trial"))
gives_back number = refl

pub leaves : (number : ℕ) → request_of (body_of number Quit) ≡ Ok wire.Quit
leaves number = refl
