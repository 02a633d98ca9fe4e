-- What bytes spell, as an option and as a relation.
use Rattle.std.proofs.Common.{◌≡◌, ℕ, List, Bool, true, false, Option, Some, None, if◌then◌else◌, refl, sym, ap, subst, ◌∙◌}
use Rattle.std.proofs.lemmas.Str.{IsUtf8-from_is_utf8, is_utf8-from_IsUtf8}
use Rattle.std.specs.Str.{IsUtf8, is_utf8}
use Rattle.serde_json.specs.Data.{Data}
use Rattle.serde_json.specs.Read.{read}
use Rattle.tf_wire.specs.Grammar.{chain, request_of, response_of, message_of, IsFitRequest, AreRequest, AreResponse, is_fit_request, allowed_only, request_in, response_in}
use Rattle.tf_wire.specs.declared.messages.Request.{Request}
use Rattle.tf_wire.specs.declared.messages.Response.{Response}
use Rattle.tf_wire.proofs.AllowedLemmas.{passes, passes_where_allowed}

-- ---- JSON

pub utf8_message : (bytes : List ℕ) → IsUtf8 bytes → message_of bytes ≡ read bytes
utf8_message bytes utf8 = rw (is_utf8-from_IsUtf8 bytes utf8) refl

no_message_at : (test : Bool) (bytes : List ℕ) → (test ≡ true → read bytes ≡ None) → (if test then read bytes else None) ≡ None
no_message_at true bytes none = none refl
no_message_at false bytes none = refl

pub no_message : (bytes : List ℕ) → (IsUtf8 bytes → read bytes ≡ None) → message_of bytes ≡ None
no_message bytes none = no_message_at (is_utf8 bytes) bytes (λ is. none (IsUtf8-from_is_utf8 bytes is))

-- ---- requests

allowed_some : (test : Bool) (x r : Request) → test ≡ is_fit_request x → (if test then Some x else None) ≡ Some r → IsFitRequest x × (x ≡ r)
allowed_some true x r is found = (passes x (sym is), cc)
allowed_some false x r is found = cc

spelled_some : (bytes : List ℕ) (d : Data) (q : Option Request) (r : Request) → message_of bytes ≡ Some d → q ≡ request_of d → chain q allowed_only ≡ Some r → AreRequest bytes r
spelled_some bytes d None r read_as is found = cc
spelled_some bytes d (Some x) r read_as is found =
    let both = allowed_some (is_fit_request x) x r refl found in
    subst (λ (request : Request). AreRequest bytes request) both.1 record { message = d; read_as = read_as; spelled = sym is; allowed = both.0 }

read_some : (bytes : List ℕ) (m : Option Data) (r : Request) → m ≡ message_of bytes → chain m (λ message. chain (request_of message) allowed_only) ≡ Some r → AreRequest bytes r
read_some bytes None r is found = cc
read_some bytes (Some d) r is found = spelled_some bytes d (request_of d) r (sym is) refl found

pub are_request : (bytes : List ℕ) (r : Request) → Some r ≡ request_in bytes → AreRequest bytes r
are_request bytes r is = read_some bytes (message_of bytes) r refl (sym is)

pub no_request : (bytes : List ℕ) → None ≡ request_in bytes → (r : Request) → ¬ (AreRequest bytes r)
no_request bytes none r are =
    let read_as : request_in bytes ≡ chain (request_of are.message) allowed_only = rw are.read_as refl in
    let spelled : chain (request_of are.message) allowed_only ≡ allowed_only r = rw are.spelled refl in
    let allowed : allowed_only r ≡ Some r = rw (passes_where_allowed r are.allowed) refl in
    let both : None ≡ Some r = none ∙ read_as ∙ spelled ∙ allowed in
    cc

-- ---- responses

response_some : (bytes : List ℕ) (m : Option Data) (r : Response) → m ≡ message_of bytes → chain m response_of ≡ Some r → AreResponse bytes r
response_some bytes None r is found = cc
response_some bytes (Some d) r is found = record { message = d; read_as = sym is; spelled = found }

pub are_response : (bytes : List ℕ) (r : Response) → Some r ≡ response_in bytes → AreResponse bytes r
are_response bytes r is = response_some bytes (message_of bytes) r refl (sym is)

pub no_response : (bytes : List ℕ) → None ≡ response_in bytes → (r : Response) → ¬ (AreResponse bytes r)
no_response bytes none r are =
    let read_as : response_in bytes ≡ response_of are.message = rw are.read_as refl in
    let both : None ≡ Some r = none ∙ read_as ∙ are.spelled in
    cc

-- ---- one reading

-- bytes are at most one request, and at most one response
pub one_request : (bytes : List ℕ) (q r : Request) → AreRequest bytes q → AreRequest bytes r → q ≡ r
one_request bytes q r one other =
    let message : Some one.message ≡ Some other.message = sym one.read_as ∙ other.read_as in
    let same : one.message ≡ other.message = cc in
    let spelled : Some q ≡ Some r = sym one.spelled ∙ ap request_of same ∙ other.spelled in
    cc

pub one_response : (bytes : List ℕ) (q r : Response) → AreResponse bytes q → AreResponse bytes r → q ≡ r
one_response bytes q r one other =
    let message : Some one.message ≡ Some other.message = sym one.read_as ∙ other.read_as in
    let same : one.message ≡ other.message = cc in
    let spelled : Some q ≡ Some r = sym one.spelled ∙ ap response_of same ∙ other.spelled in
    cc
