-- What a command reads, and why it can't.
use Rattle.std.specs.Prelude.{◌≡◌, ◌⊎◌, ℕ, List, [], ◌∷◌, Option, Some, None, ⊤, IfSome}
use Rattle.session.specs.Frames.{IsFramed, StopsAt}
use Rattle.session.specs.declared.frame.FrameFault.TheVariants.{Io as FrameIo}
use Rattle.session.specs.declared.frame.FrameFault.TheVariants.{NoMemory as NoFrameMemory}
use Rattle.session.specs.declared.frame.FrameFault.TheVariants.{NoSuchPlace}
use Rattle.certificate.specs.Certificate.{Certificate, IsCertificate, certificate_text, text_fault}
use Rattle.certificate.specs.declared.certificate.CertFault.TheVariants.{Io as CertificateIo}
use Rattle.certificate.specs.declared.certificate.CertFault.TheVariants.{NoMemory as NoCertMemory}
use Rattle.certificate.specs.declared.certificate.CertFault.TheVariants.{OtherIdentity}
use Rattle.session.specs.declared.range.PlaceRange.{PlaceRange}
use Rattle.request.specs.Places.{AreRanges, IsFirstWrong, words_of}
use Rattle.host.specs.World.{Files, World, Holds, MayFail, Opening, Reading}
use Rattle.commands.specs.declared.fault.Fault.{Fault}
use Rattle.commands.specs.declared.fault.Fault.TheVariants.{Open, File, Memory, Frame, NoPlace}
use Rattle.commands.specs.declared.fault.Fault.TheVariants.{Certificate as NoCertificate}

-- a named file, and what it is read as: a stream is a session that is read frame by frame, places
-- are words of a text
pub data Input : Type 0 where
  AnObject : List ℕ → Input
  ASession : List ℕ → Input
  ACertificate : List ℕ → Input
  AStream : List ℕ → Input
  APlaces : List ℕ → Input

pub data Value : Type 0 where
  Bytes : List ℕ → Value
  Datagrams : List (List ℕ) → Value
  Polynomials : Certificate → Value
  Opened : Option (List ℕ) → Value
  Places : List PlaceRange → Value

abbrev pub name_of : Input → List ℕ
name_of (AnObject name) = name
name_of (ASession name) = name
name_of (ACertificate name) = name
name_of (AStream name) = name
name_of (APlaces name) = name

-- the file gives this value; a stream its bytes, from the first on, and so may a session; and
-- where no files are told, nothing is told of an object or a certificate that is opened
abbrev pub HasValue : Option Files → Input → Value → Type 0
HasValue files (AnObject name) (Bytes object) = Holds files name (λ bytes. bytes ≡ object)
HasValue files (ASession name) (Datagrams datagrams) = Holds files name (IsFramed datagrams)
HasValue files (ASession name) (Opened content) =
    Holds files name (λ bytes. (content ≡ Some bytes)
    × (datagrams : List (List ℕ)) × IsFramed datagrams bytes)
HasValue files (ACertificate name) (Polynomials z) =
    IsCertificate z × Holds files name (λ bytes. bytes ≡ certificate_text z)
HasValue files (AStream name) (Opened remaining) =
    Holds files name (λ bytes. remaining ≡ Some bytes)
HasValue files (AnObject name) (Opened content) = (files ≡ None) × (content ≡ None)
HasValue files (ACertificate name) (Opened content) = (files ≡ None) × (content ≡ None)
HasValue files (APlaces name) (Places ranges) =
    Holds files name (λ bytes. AreRanges (words_of bytes) ranges)
HasValue files input value = ⊥

-- each gives its own
abbrev pub HaveValues : Option Files → List Input → List Value → Type 0
HaveValues files [] [] = ⊤
HaveValues files (input ∷ inputs) (value ∷ values) =
    HasValue files input value × HaveValues files inputs values
HaveValues files inputs values = ⊥

-- each is there, whatever it holds
abbrev pub AreThere : Option Files → List Input → Type 0
AreThere files [] = ⊤
AreThere files (input ∷ inputs) = Holds files (name_of input) (λ bytes. ⊤) × AreThere files inputs

-- why a file doesn't open: it isn't there, or opening is refused, or there is no memory
abbrev pub IsUnopened : World → List ℕ → Fault → Type 0
IsUnopened world name (Open opened) =
    (opened.now ≡ name)
    × (MayFail world (Opening name) ⊎ IfSome world.files (λ held. held name ≡ None))
IsUnopened world name Memory = ⊤
IsUnopened world name fault = ⊥

-- why one gives no value: it doesn't open, or its bytes give none, or reading it is refused
abbrev pub IsUnread : World → Input → Fault → Type 0
IsUnread world (AnObject name) (File read) = (read.now ≡ name) × MayFail world (Reading name)
IsUnread world (ASession name) (File read) = (read.now ≡ name) × MayFail world (Reading name)
IsUnread world (ASession name) (Frame FrameIo) = MayFail world (Reading name)
IsUnread world (ASession name) (Frame NoFrameMemory) = ⊤
IsUnread world (ASession name) (Frame (NoSuchPlace place)) = ⊥
IsUnread world (ASession name) (Frame fault) = Holds world.files name (StopsAt fault)
IsUnread world (ACertificate name) (File read) = (read.now ≡ name) × MayFail world (Reading name)
IsUnread world (ACertificate name) (NoCertificate CertificateIo) = MayFail world (Reading name)
IsUnread world (ACertificate name) (NoCertificate NoCertMemory) = ⊤
IsUnread world (ACertificate name) (NoCertificate OtherIdentity) = ⊥
IsUnread world (ACertificate name) (NoCertificate fault) =
    Holds world.files name (λ bytes. text_fault bytes ≡ Some fault)
IsUnread world (APlaces name) (File read) = (read.now ≡ name) × MayFail world (Reading name)
IsUnread world (APlaces name) (NoPlace count) =
    Holds world.files name (λ bytes. (word : List ℕ) × IsFirstWrong (words_of bytes) count word)
IsUnread world input fault = IsUnopened world (name_of input) fault

-- one gives no value, and those before it do
abbrev pub IsFirstUnread : World → List Input → Fault → Type 0
IsFirstUnread world [] fault = ⊥
IsFirstUnread world (input ∷ inputs) fault =
    IsUnread world input fault
    ⊎ ((value : Value) × HasValue world.files input value × IsFirstUnread world inputs fault)
