-- What is seen of a call, and what it asks the shelf for.
use Rattle.std.specs.Prelude.{ℕ, ◌≡◌, ◌≤◌, ◌<◌, List, [], ◌∷◌, ◌++◌, length, Option, Some, None, option_map, IfSome}
use Rattle.std.specs.Prelude.{Result, Ok, Err}
use Rattle.grift_base.specs.Outside.{next_count}
use Rattle.grift_base.specs.Shelf.{ShelfSeen}
use Rattle.grift_base.specs.Sink.{SinkSeen, Untouched}
use Rattle.grift_base.specs.Sizes.{source_limit, image_limit, input_limit}
use Rattle.grift_base.specs.declared.shelves.LoadFault.{LoadFault}
use Rattle.grift_base.specs.declared.shelves.LoadFault.TheVariants.{Failed, TooLong, OutOfMemory}
use Rattle.command_words.specs.Commands.{Command, Run, Exec, Check, Audit, Casts, Code, ImageOf, Model, Gen}
use Rattle.command_words.specs.Commands.{IsCommand, AreNoCommand}
use Rattle.grift_cli.specs.declared.loads.Loaded.{Loaded}

-- its words, and what is seen of the shelf and of the sinks for output and image
pub record CallSeen : Type 0 where
  pub words : List (List ℕ)
  pub shelf : ShelfSeen
  pub out : SinkSeen
  pub img : SinkSeen

-- nothing was put on output and image
pub record PutsNothing (call : CallSeen) : Type 0 where
  pub out : Untouched call.out
  pub img : Untouched call.img

-- the shelf was asked for these names, where it tells them
abbrev pub AsksFor : List (List ℕ) → ShelfSeen → Type 0
AsksFor names shelf = shelf.asked_after ≡ option_map (λ before. before ++ names) shelf.asked

-- no load failed
abbrev pub FailsNoLoad : ShelfSeen → Type 0
FailsNoLoad shelf = shelf.faults_after ≡ shelf.faults

-- ---- the files of a command

-- a file that is to be loaded, and how many bytes it may have at most
pub record File : Type 0 where
  pub name : List ℕ
  pub most : ℕ

-- a file with a source
abbrev pub source_file : List ℕ → File
source_file name = record { name = name; most = source_limit }

-- the file that a command is about, if it is about one
abbrev pub file_of : Command → Option File
file_of (Run file limits input space image) = Some (source_file file)
file_of (Exec file limits input) = Some (record { name = file; most = image_limit })
file_of (Check file) = Some (source_file file)
file_of (Audit file) = Some (source_file file)
file_of (Casts file) = Some (source_file file)
file_of (Code file) = Some (source_file file)
file_of (ImageOf file) = Some (source_file file)
file_of (Model file steps input) = Some (source_file file)
file_of (Gen number) = None

-- a file of input, where a name is given
abbrev pub input_file : Option (List ℕ) → Option File
input_file None = None
input_file (Some name) = Some (record { name = name; most = input_limit })

-- the file of its input, if it has one
abbrev pub input_of : Command → Option File
input_of (Run file limits input space image) = input_file input
input_of (Exec file limits input) = input_file input
input_of (Model file steps input) = input_file input
input_of _ = None

-- its name, if there is one
abbrev pub names_of : Option File → List (List ℕ)
names_of None = []
names_of (Some file) = file.name ∷ []

-- these bytes were loaded: they are no more than the file may have, and what its name holds, where that is told
pub record IsContent (shelf : ShelfSeen) (file : File) (bytes : List ℕ) : Type 0 where
  pub short : length bytes ≤ file.most
  pub held : IfSome (shelf.holds file.name) (λ held. bytes ≡ held)

-- these bytes are the input: those of its file, and none without one
abbrev pub IsInput : ShelfSeen → Option File → List ℕ → Type 0
IsInput shelf None bytes = bytes ≡ []
IsInput shelf (Some file) bytes = IsContent shelf file bytes

-- this file comes next, when those of these names were loaded: the file first, and when that was loaded the input
pub data ComesNext (shelf : ShelfSeen) (file : File) (input : Option File) : List (List ℕ) → File → Type 0 where
  FileComes : ComesNext shelf file input [] file
  InputComes : {next : File} {bytes : List ℕ} → IsContent shelf file bytes → input ≡ Some next
      → ComesNext shelf file input (file.name ∷ []) next

-- both files were loaded, with these bytes
pub record AreLoaded (shelf : ShelfSeen) (file : File) (input : Option File) (bytes read : List ℕ) : Type 0 where
  pub asks : AsksFor (file.name ∷ names_of input) shelf
  pub faults : FailsNoLoad shelf
  pub content : IsContent shelf file bytes
  pub input_is : IsInput shelf input read

-- one of the two files could not be read: one load failed
pub record IsNotLoaded (shelf : ShelfSeen) (file : File) (input : Option File) : Type 0 where
  pub before : List (List ℕ)
  pub last : File
  pub comes : ComesNext shelf file input before last
  pub asks : AsksFor (before ++ last.name ∷ []) shelf
  pub faults : shelf.faults_after ≡ next_count shelf.faults

-- one of them has more bytes than it may have, where that is told
pub record IsTooLong (shelf : ShelfSeen) (file : File) (input : Option File) : Type 0 where
  pub before : List (List ℕ)
  pub last : File
  pub comes : ComesNext shelf file input before last
  pub asks : AsksFor (before ++ last.name ∷ []) shelf
  pub faults : FailsNoLoad shelf
  pub long : IfSome (shelf.holds last.name) (λ bytes. last.most < length bytes)

-- no memory was left for one of them
pub record LacksMemory (shelf : ShelfSeen) (file : File) (input : Option File) : Type 0 where
  pub before : List (List ℕ)
  pub last : File
  pub comes : ComesNext shelf file input before last
  pub asks : AsksFor before shelf
  pub faults : FailsNoLoad shelf

-- what the loads of a file and of an input come to
abbrev pub LoadsFiles : File → Option File → Result Loaded LoadFault → ShelfSeen → Type 0
LoadsFiles file input (Ok loaded) shelf = AreLoaded shelf file input loaded.bytes loaded.input
LoadsFiles file input (Err Failed) shelf = IsNotLoaded shelf file input
LoadsFiles file input (Err TooLong) shelf = IsTooLong shelf file input
LoadsFiles file input (Err OutOfMemory) shelf = LacksMemory shelf file input

-- ---- calls

-- the words are this command, and its file and its input were loaded, with these bytes
pub record HasLoaded (call : CallSeen) (command : Command) (bytes input : List ℕ) : Type 0 where
  pub words : IsCommand call.words command
  pub file : File
  pub file_is : file_of command ≡ Some file
  pub loaded : AreLoaded call.shelf file (input_of command) bytes input

-- the shelf was asked for nothing
pub record AsksNothing (shelf : ShelfSeen) : Type 0 where
  pub asks : AsksFor [] shelf
  pub faults : FailsNoLoad shelf

-- the words are no command, and the shelf was asked for nothing
pub record HasNoCommand (call : CallSeen) : Type 0 where
  pub words : AreNoCommand call.words
  pub shelf : AsksNothing call.shelf
  pub nothing : PutsNothing call

-- nothing was put, since loading the command's file and its input ended so
pub record StopsAtFile (call : CallSeen) (EndsSo : ShelfSeen → File → Option File → Type 0) : Type 0 where
  pub command : Command
  pub words : IsCommand call.words command
  pub file : File
  pub file_is : file_of command ≡ Some file
  pub ends_so : EndsSo call.shelf file (input_of command)
  pub nothing : PutsNothing call

-- a file could not be read
abbrev pub HasNoFile : CallSeen → Type 0
HasNoFile call = StopsAtFile call IsNotLoaded

-- a file has more bytes than it may have
abbrev pub HasLongFile : CallSeen → Type 0
HasLongFile call = StopsAtFile call IsTooLong

-- no memory was left for a file
abbrev pub LacksFile : CallSeen → Type 0
LacksFile call = StopsAtFile call LacksMemory
