mod Contents
mod FreeRuns
mod Handing
mod Units
